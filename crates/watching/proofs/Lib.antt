pub mod Playing
mod Marks
mod Keeping
pub mod KnownHits
pub mod KnownHeard
pub mod KnownRuns
pub mod KnownSights
pub mod Hitting
pub mod Telling
pub mod Losing
pub mod Hearing
pub mod Rounding
pub mod Replies
pub mod Asking
pub mod Moments
pub mod Happening
pub mod Searching
