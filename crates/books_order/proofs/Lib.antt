pub mod LaidEdges
