-- What a host gets, by what the role may and what the request does: Asked.
pub mod Asked
pub mod CodeLaws
