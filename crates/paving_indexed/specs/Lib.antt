pub mod Rects
