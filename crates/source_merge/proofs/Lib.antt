mod Growing
mod BareStops
mod Taking
mod Counted
mod Feds
mod Spent
