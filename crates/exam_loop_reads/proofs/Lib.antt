-- What links, loops and readings are, step by step: Readings. That loop k is entry k of those found from each node in turn: Numbered.
pub mod Readings
pub mod Numbered
