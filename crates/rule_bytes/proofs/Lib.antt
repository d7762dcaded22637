pub mod Answers
pub mod Lengths
pub mod RoundTrip
pub mod Trees
