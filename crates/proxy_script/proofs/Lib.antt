pub mod ItemLaws
pub mod LineLaws
pub mod NumberLaws
