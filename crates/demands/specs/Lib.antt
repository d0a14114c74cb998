-- The demands, as statements: what has to be believed of them stands here, and proofs/ proves them. The claims are EveryBlock in Cover.antt, NoOtherObject in
-- Unaltered.antt, the laws of Sentences.antt and Malformed.antt, and AtTheEdges and ScenesAreRead in Examples.antt.
pub mod Answers
pub mod Cover
pub mod Unaltered
pub mod Sentences
pub mod Malformed
pub mod Examples
pub mod Wrong
pub mod Calls
