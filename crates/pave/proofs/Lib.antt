-- What is printed of a whole input: Printed.
pub mod Printed
