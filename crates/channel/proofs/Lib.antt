mod Phases
mod Nearness
mod Strength
