pub mod StraightWays
pub mod RingWays
pub mod Passings
pub mod FunnelledWays
