pub mod Balance
