pub mod Program
pub mod Laws
