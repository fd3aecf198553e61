use Rattle.std.proofs.Common.{◌≡◌, ◌*◌, ◌≤◌, ◌++◌, length, take}
use Rattle.writing.specs.Written.{places_text}
use Rattle.writing.proofs.whole.put_places.Given as goal

abbrev pub invariant-loop-place : goal.invariant-loop-place
invariant-loop-place l = record {
  text : l.draft ≡ l.initial.draft ++ places_text l.values (take l.place-index l.places);
  short : length (places_text l.values (take l.place-index l.places)) ≤ 160 * l.place-index;
}
