-- Laws, and what the proofs share.
pub mod RoundTrip
pub mod SixteenthLaws
