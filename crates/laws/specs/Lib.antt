pub mod Loop
pub mod Overlay
pub mod Tabulate
pub mod Tests
