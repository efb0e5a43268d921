use Rattle.std.proofs.Common.{◌≡◌, map, take}
use Rattle.sap_origin.specs.Trails.{use_word}
use Rattle.sap_origin.proofs.origin.use_words.Given as goal

abbrev pub invariant-loop-k : goal.invariant-loop-k
invariant-loop-k l = l.words ≡ map use_word (take l.k l.uses)
