mod Exchanges
mod DayLaw
mod BusyTicks
mod Examples
mod Playing
mod ClosingRoom
mod Written
mod Evenings
