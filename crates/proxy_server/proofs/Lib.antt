mod Living
mod Losing
