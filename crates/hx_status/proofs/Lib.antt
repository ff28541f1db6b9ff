pub mod TextLemmas
pub mod StoringWords
pub mod AboutLemmas
