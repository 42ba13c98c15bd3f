pub mod Even
mod Examples
pub mod Laying
pub mod Steps
mod Written
