-- What only a further theorem cites.
pub mod Displaced
