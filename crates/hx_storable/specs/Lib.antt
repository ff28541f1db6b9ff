pub mod Rules
pub mod Storable
pub mod LineWordsInStoring
pub mod Cases
pub mod StoringRuleNames
pub mod StoringRuleTables
