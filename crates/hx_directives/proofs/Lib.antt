pub mod LineByLine
pub mod ShortMembers
pub mod TokenNames
pub mod OtherLines
