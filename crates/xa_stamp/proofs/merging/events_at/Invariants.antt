use Rattle.std.proofs.Common.{◌≡◌, ◌≤◌, take, length, vec_len, vec_capacity}
use Rattle.xa_stamp.specs.Merge.{StandAt}
use Rattle.xa_stamp.proofs.merging.events_at.Given as goal

-- the events so far stand at the first places, and there is room for the others
abbrev pub invariant-loop-place : goal.invariant-loop-place
invariant-loop-place l = record {
  copied : StandAt l.homes (take l.place-index l.places) l.events.items;
  count : vec_len l.events ≡ l.place-index;
  room : length l.places ≤ vec_capacity l.events;
}
