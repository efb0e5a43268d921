-- The formulas of the theories of a file are checked.
use Rattle.std.proofs.Common.{true, List, [], ◌∷◌, ◌++◌, map}
use Rattle.sap_terms.specs.Signature.{Sig}
use Rattle.sap_formula.specs.Form.{Form, LemmaForm, RestrictionForm, both}
use Rattle.sap_formula.specs.Laws.{ClosedLaw, IsCheckedVisible, IsClosed}
use Rattle.sap_formula.specs.Truth.{EachIn}
use Rattle.sap_formula.specs.declared.lemma.Mode.{Mode}
use Rattle.sap_formula.specs.declared.lemma.Mode.TheVariants.{AllTraces, ExistsTrace}
use Rattle.sap_read.specs.Files.{FileContent, IsRunnable}
use Rattle.sap_restrict.specs.Inline.{formulas, inlined, joined}
use Rattle.sap_restrict.specs.Laws.{StandardClosedLaw}
use Rattle.sap_restrict.specs.Needed.{needed}
use Rattle.sap_restrict.specs.Restrictions.{named, needed_restrictions}
use Rattle.sap_restrict.specs.declared.which.Which.{Which}
use Rattle.sap_gen.specs.Kept.{IsClosedTheory, all_restrictions, file_theory, inlined_file_theory}
use Rattle.sap_gen.specs.Theories.{inlined_lemma}
use Rattle.sap_gen.proofs.Lemmas.Kept.{AreVisible}

-- lists

abbrev AreClosed : Sig → List RestrictionForm → Type 0
AreClosed g rs = EachIn (λ (r : RestrictionForm). IsClosed g r.formula) rs

both_closed : (g : Sig) (rs ss : List RestrictionForm) → AreClosed g rs → AreClosed g ss → AreClosed g (rs ++ ss)
both_closed g [] ss h k = k
both_closed g (r ∷ rs) ss h k = (h.0, both_closed g rs ss h.1 k)

named_closed : StandardClosedLaw → (g : Sig) (ws : List Which) → AreClosed g (map named ws)
named_closed seven g [] = tt
named_closed seven g (w ∷ ws) = (seven g w, named_closed seven g ws)

joined_closed : (g : Sig) (r : Form) (rs : List RestrictionForm) → IsClosed g r → AreClosed g rs → IsClosed g (joined r (formulas rs))
joined_closed g r [] h k = h
joined_closed g r (s ∷ rs) h k = joined_closed g (both r s.formula) rs (h, k.0) k.1

inlined_closed : (g : Sig) (m : Mode) (rs : List RestrictionForm) (f : Form) → AreClosed g rs → IsClosed g f → IsClosed g (inlined m (formulas rs) f)
inlined_closed g AllTraces [] f k h = (tt, h)
inlined_closed g AllTraces (r ∷ rs) f k h = (joined_closed g r.formula rs k.0 k.1, h)
inlined_closed g ExistsTrace [] f k h = (tt, h)
inlined_closed g ExistsTrace (r ∷ rs) f k h = (joined_closed g r.formula rs k.0 k.1, h)

carrying_closed : (g : Sig) (rs : List RestrictionForm) → AreClosed g rs → (ls : List LemmaForm) → EachIn (λ (l : LemmaForm). IsClosed g l.formula) ls → EachIn (λ (l : LemmaForm). IsClosed g l.formula) (map (inlined_lemma (formulas rs)) ls)
carrying_closed g rs k [] h = tt
carrying_closed g rs k (l ∷ ls) h = (inlined_closed g l.mode rs l.formula k h.0, carrying_closed g rs k ls h.1)

module _ (seven : StandardClosedLaw) (law : ClosedLaw) (f : FileContent) (run : IsRunnable f) where
  own_closed : (rs : List RestrictionForm) → AreVisible f.signature rs → AreClosed f.signature rs
  own_closed [] h = tt
  own_closed (r ∷ rs) h = (law f.signature true r.formula h.0, own_closed rs h.1)

  all_closed : AreClosed f.signature (all_restrictions f)
  all_closed = both_closed f.signature (needed_restrictions f.process) f.restrictions (named_closed seven f.signature (needed f.process)) (own_closed f.restrictions run.restrictions)

  lemmas_closed : (ls : List LemmaForm) → EachIn (λ (l : LemmaForm). IsCheckedVisible f.signature l.formula) ls → EachIn (λ (l : LemmaForm). IsClosed f.signature l.formula) ls
  lemmas_closed [] h = tt
  lemmas_closed (l ∷ ls) h = (law f.signature true l.formula h.0, lemmas_closed ls h.1)

  pub theory_closed : IsClosedTheory (file_theory f)
  theory_closed = record { restrictions = all_closed; lemmas = lemmas_closed f.lemmas run.lemmas }

  pub inlined_theory_closed : IsClosedTheory (inlined_file_theory f)
  inlined_theory_closed = record {
    restrictions = tt;
    lemmas = carrying_closed f.signature (all_restrictions f) all_closed f.lemmas (lemmas_closed f.lemmas run.lemmas);
  }
