mod Comments
mod Letters
mod Spans
