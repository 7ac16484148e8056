mod Tests
mod Agreeing
mod Leading
mod Drives
mod Classes
mod Standing
