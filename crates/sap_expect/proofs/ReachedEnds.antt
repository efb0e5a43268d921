-- Whatever is wanted behind words that were taken one by one can be had.
use Rattle.std.proofs.Common.{◌≡◌, ℕ, true, List, refl}
use Rattle.sap_grammar.specs.Words.{Word}
use Rattle.sap_expect.specs.FileTable.{Open, Reads, file}
use Rattle.sap_expect.specs.Levels.{AreTaken, more_taken, none_taken}
use Rattle.sap_expect.proofs.Ends.{ends}
use Rattle.sap_expect.proofs.Quiet.{closes, closes_on}

pub closes_behind : {n k : ℕ} {vs us : List Open} {ws : List Word} → AreTaken n vs ws k us → closes vs ≡ true → closes us ≡ true
closes_behind none_taken e = e
closes_behind (more_taken t r) e = closes_behind r (closes_on t e)

pub reached_ends : (us : List Word) (n : ℕ) (vs : List Open) → AreTaken 0 file us n vs → (ws : List Word) × Reads n vs ws
reached_ends us n vs r =
    let h = ends vs (closes_behind r refl) in
    (h.words, h.reads n)
