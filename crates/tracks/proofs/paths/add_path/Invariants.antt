use Rattle.std.proofs.Common.{◌≤◌, length}
use Rattle.tracks.proofs.paths.add_path.Given as goal

abbrev pub invariant-loop : goal.invariant-loop
invariant-loop l = l.first ≤ length l.track.path.places
