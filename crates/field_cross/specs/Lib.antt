pub mod Grid
pub mod Seeds
pub mod Field
