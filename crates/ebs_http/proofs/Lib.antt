mod FieldCounts
mod LengthLemmas
mod LineFeeds
mod BegunLemmas
pub mod MessageLemmas
pub mod ReceivedLemmas
pub mod StateLemmas
pub mod StreamLemmas
