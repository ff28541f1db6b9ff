pub mod HandedOver
pub mod SentEach
