-- The names of which Fr is made by lines of rules that stand in turn.
use Rattle.std.proofs.Common.{◌≡◌, ℕ, Bool, true, false, List, [], ◌∷◌, ◌++◌, refl, sym, ap, ◌∙◌}
use Rattle.sap_runs.specs.declared.process_step.PStep.{PStep}
use Rattle.sap_runs.specs.declared.rule_step.RStep.{RStep}
use Rattle.sap_rule_lines.specs.Least.{is_among, drawn_by, names_drawn, names_made, not_drawn, AreLeast}
use Rattle.sap_forward.specs.LinesFor.{AreRuleLinesFor, AreRuleLinesForAll, no_lines, more}
use Rattle.sap_forward.specs.Opposite.{RuleLinesStandInTurn}
use Rattle.sap_forward.proofs.Given.{drawn_one, not_drawn_join, made_join, among_join, among_self, or_left, or_right}

-- to leave out twice what is drawn is to leave it out
twice : (drawn ns : List ℕ) → not_drawn drawn (not_drawn drawn ns) ≡ not_drawn drawn ns
twice drawn [] = refl
twice drawn (n ∷ ns) = by (is_among drawn n) refl (twice drawn ns) where
  by : (b : Bool) → is_among drawn n ≡ b → not_drawn drawn (not_drawn drawn ns) ≡ not_drawn drawn ns → not_drawn drawn (not_drawn drawn (n ∷ ns)) ≡ not_drawn drawn (n ∷ ns)
  by true e h = let out : not_drawn drawn (n ∷ ns) ≡ not_drawn drawn ns = rw e refl in ap (not_drawn drawn) out ∙ h ∙ sym out
  by false e h =
      let in_ : (ms : List ℕ) → not_drawn drawn (n ∷ ms) ≡ n ∷ not_drawn drawn ms = λ ms. rw e refl in
      ap (not_drawn drawn) (in_ ns) ∙ in_ (not_drawn drawn ns) ∙ ap (λ x. n ∷ x) h ∙ sym (in_ ns)

module _ (drawn : List ℕ) where
  -- of those that the lines of one line make, what isn't drawn is what its lock or tag gets
  made_by_one : {step : PStep} {own : List RStep} {given : List ℕ} → AreRuleLinesFor step own given → ((n : ℕ) → is_among (drawn_by step) n ≡ true → is_among drawn n ≡ true) → not_drawn drawn (names_made own) ≡ not_drawn drawn given
  made_by_one (AreRuleLinesFor.ends t path ks) h = refl
  made_by_one (AreRuleLinesFor.splits t path ks) h = refl
  made_by_one (AreRuleLinesFor.copies_first t path ks js) h = refl
  made_by_one (AreRuleLinesFor.copies_more t path ks) h = refl
  made_by_one (AreRuleLinesFor.makes_name t n path ks) h = drawn_one drawn n (h n (among_self n))
  made_by_one (AreRuleLinesFor.outputs t k path ks) h = refl
  made_by_one (AreRuleLinesFor.outputs_on t j k path ks) h = refl
  made_by_one (AreRuleLinesFor.inputs t j path ks) h = refl
  made_by_one (AreRuleLinesFor.inputs_on t j path ks) h = refl
  made_by_one (AreRuleLinesFor.meets a b n path at ks js is) h = refl
  made_by_one (AreRuleLinesFor.agrees t path ks) h = refl
  made_by_one (AreRuleLinesFor.differs t path ks) h = refl
  made_by_one (AreRuleLinesFor.shows t path ks) h = refl
  made_by_one (AreRuleLinesFor.inserts t path ks) h = refl
  made_by_one (AreRuleLinesFor.deletes t path ks) h = refl
  made_by_one (AreRuleLinesFor.finds t b path ks) h = refl
  made_by_one (AreRuleLinesFor.misses t path ks) h = refl
  made_by_one (AreRuleLinesFor.locks t n path ks) h = refl
  made_by_one (AreRuleLinesFor.unlocks t path ks) h = refl
  made_by_one (AreRuleLinesFor.embeds t taken b path ks) h = refl
  made_by_one (AreRuleLinesFor.names n k) h = drawn_one drawn n (h n (among_self n))
  made_by_one (AreRuleLinesFor.writes a) h = refl
  made_by_one (AreRuleLinesFor.applies f ks) h = refl
  made_by_one (AreRuleLinesFor.knows k) h = refl

  made_by_all : {lines : List PStep} {rest : List RStep} {names : List ℕ} → AreRuleLinesForAll lines rest names → ((n : ℕ) → is_among (names_drawn lines) n ≡ true → is_among drawn n ≡ true) → not_drawn drawn (names_made rest) ≡ not_drawn drawn names
  made_by_all no_lines h = refl
  made_by_all (more {step = step} {own = own} {given = given} {lines = lines} {rest = rest} {names = names} is all) h =
      let here = made_by_one is (λ n e. h n (among_join (drawn_by step) (names_drawn lines) n ∙ or_left (is_among (drawn_by step) n) (is_among (names_drawn lines) n) e)) in
      let later = made_by_all all (λ n e. h n (among_join (drawn_by step) (names_drawn lines) n ∙ or_right (is_among (drawn_by step) n) (is_among (names_drawn lines) n) e)) in
      ap (not_drawn drawn) (made_join own rest) ∙ not_drawn_join drawn (names_made own) (names_made rest) ∙ (λ i. here i ++ later i) ∙ sym (not_drawn_join drawn given names)

-- they are the least
pub least_made : (lines : List PStep) (rule_lines : List RStep) → RuleLinesStandInTurn lines rule_lines → AreLeast (names_drawn lines) (not_drawn (names_drawn lines) (names_made rule_lines))
least_made lines rule_lines h =
    let drawn = names_drawn lines in
    (h.least.0, ap (λ x. not_drawn drawn (names_made x)) h.starts ∙ made_by_all drawn h.each (λ n e. e) ∙ ap (not_drawn drawn) h.least.1 ∙ twice drawn _)
