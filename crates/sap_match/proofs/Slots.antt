-- What slots hold, and matches step by step.
use Rattle.std.proofs.Common.{◌≡◌, ℕ, ◌+◌, ◌≤◌, List, [], ◌∷◌, ◌++◌, Bool, if◌then◌else◌, Option, Some, None, length, drop, slice_get, map, append_assoc, refl, sym, ap, ◌∙◌, arith}
use Rattle.std.proofs.lemmas.List.{append-nil}
use Rattle.std.proofs.Math.ListN.{drop_of_length-le}
use Rattle.std.proofs.lemmas.Option.{slice_get-map}
use Rattle.sap_terms.proofs.PlainLaws.Lists.{drop_got}
use Rattle.sap_match.specs.Atoms.{Held}
use Rattle.sap_match.specs.Matched.{State, filled, matched, matched_all, onward, taken, taken_by}
use Rattle.sap_match.specs.Matched.{StaysInFront}
use Rattle.sap_match.specs.code.Reached.{IsReached}
use Rattle.sap_match.specs.View.{held}
use Rattle.std.specs.Str.{bytes_eq}
use Rattle.sap_terms.specs.Same.{same_tree}
use Rattle.sap_terms.specs.Tree.{Tree, Trees, apply, fresh, none, public, trees_of, variable}
use Rattle.sap_terms.specs.View.{tree}
use Rattle.sap_terms.specs.declared.term.Term.{Term}
use Rattle.sap_terms.specs.declared.term.Term.TheVariants.{Var as TVar, Public as TPublic, Fresh as TFresh, App as TApp}
use Rattle.sap_terms.specs.declared.term.TermList.{TermList}
use Rattle.sap_terms.specs.declared.var.Var.{Var}
use Rattle.sap_match.specs.declared.atom.Value.{Value}

pub ruleset slot_laws = (slice_get-map)

pub front_same : {X : Type 0} (xs : List X) → StaysInFront xs xs
front_same xs = ([], sym (append-nil xs))

pub front_more : {X : Type 0} (xs : List X) (x : X) → StaysInFront xs (xs ++ x ∷ [])
front_more xs x = (x ∷ [], refl)

pub front_on : {X : Type 0} (xs ys zs : List X) → StaysInFront xs ys → StaysInFront ys zs → StaysInFront xs zs
front_on xs ys zs (a, e) (b, d) = (a ++ b, d ∙ ap (λ l. l ++ b) e ∙ append_assoc xs a b)

pub held_more : (vs : List Value) (v : Value) → map held (vs ++ v ∷ []) ≡ map held vs ++ held v ∷ []
held_more [] v = refl
held_more (w ∷ vs) v = ap (λ l. held w ∷ l) (held_more vs v)

pub ruleset taken_laws = (front_same, front_more, held_more)

-- an occurrence met, and not met
pub mark_met : (ms : List (Option ℕ)) (at : ℕ) (m : Option ℕ) (h : Held) (f : Bool) (hs ks : List Held) → slice_get ms at ≡ Some m → filled m h f hs ≡ Some ks → taken h f (record { marks = drop at ms; held = hs }) ≡ Some (record { marks = drop (at + 1) ms; held = ks })
mark_met ms at m h f hs ks g e = ap (λ l. taken_by l hs h f) (drop_got ms at m g) ∙ ap (λ o. onward o (λ ks. Some (record { marks = drop (at + 1) ms; held = ks }))) e

pub mark_missed : (ms : List (Option ℕ)) (at : ℕ) (m : Option ℕ) (h : Held) (f : Bool) (hs : List Held) → slice_get ms at ≡ Some m → filled m h f hs ≡ None → taken h f (record { marks = drop at ms; held = hs }) ≡ None
mark_missed ms at m h f hs g e = ap (λ l. taken_by l hs h f) (drop_got ms at m g) ∙ ap (λ o. onward o (λ ks. Some (record { marks = drop (at + 1) ms; held = ks }))) e

pub mark_end : (ms : List (Option ℕ)) (at : ℕ) (h : Held) (f : Bool) (hs : List Held) → length ms ≤ at → taken h f (record { marks = drop at ms; held = hs }) ≡ None
mark_end ms at h f hs l = ap (λ l. taken_by l hs h f) (drop_of_length-le ms l)

pub ruleset mark_laws = (front_same, mark_met, mark_missed, mark_end)

-- one more of two lists
pub all_more : (ps ts : List Tree) (k : ℕ) (a b : Tree) (s : State) → slice_get ps k ≡ Some a → slice_get ts k ≡ Some b → matched_all (trees_of (drop k ps)) (trees_of (drop k ts)) s ≡ onward (matched a b s) (matched_all (trees_of (drop (k + 1) ps)) (trees_of (drop (k + 1) ts)))
all_more ps ts k a b s h g =
    let e = drop_got ps k a h in
    let d = drop_got ts k b g in
    λ i. matched_all (trees_of (e i)) (trees_of (d i)) s

pub all_end : (ps ts : List Tree) (k : ℕ) (s : State) → length ps ≤ k → length ts ≤ k → matched_all (trees_of (drop k ps)) (trees_of (drop k ts)) s ≡ Some s
all_end ps ts k s h l = ap (λ xs. matched_all (trees_of xs) (trees_of (drop k ts)) s) (drop_of_length-le ps h) ∙ ap (λ ys. matched_all none (trees_of ys) s) (drop_of_length-le ts l)

pub each_met : (ps ts : List Tree) (k : ℕ) (a b : Tree) (s r : State) → slice_get ps k ≡ Some a → slice_get ts k ≡ Some b → matched a b s ≡ Some r → matched_all (trees_of (drop k ps)) (trees_of (drop k ts)) s ≡ matched_all (trees_of (drop (k + 1) ps)) (trees_of (drop (k + 1) ts)) r
each_met ps ts k a b s r h g e = all_more ps ts k a b s h g ∙ ap (λ o. onward o (matched_all (trees_of (drop (k + 1) ps)) (trees_of (drop (k + 1) ts)))) e

pub each_missed : (ps ts : List Tree) (k : ℕ) (a b : Tree) (s : State) → slice_get ps k ≡ Some a → slice_get ts k ≡ Some b → matched a b s ≡ None → matched_all (trees_of (drop k ps)) (trees_of (drop k ts)) s ≡ None
each_missed ps ts k a b s h g e = all_more ps ts k a b s h g ∙ ap (λ o. onward o (matched_all (trees_of (drop (k + 1) ps)) (trees_of (drop (k + 1) ts)))) e

-- what the code answers, by its case
pub reached_none : (ms : List (Option ℕ)) (hs : List Held) (o : Option ℕ) (r : Option State) → IsReached ms hs o r → o ≡ None → r ≡ None
reached_none ms hs None r h e = h
reached_none ms hs (Some k) r h e = absurd (cc)

pub reached_some : (ms : List (Option ℕ)) (hs : List Held) (o : Option ℕ) (r : Option State) (k : ℕ) → IsReached ms hs o r → o ≡ Some k → r ≡ Some (record { marks = drop k ms; held = hs })
reached_some ms hs None r k h e = absurd (cc)
reached_some ms hs (Some j) r k h e = h ∙ ap (λ o. reached o) e where
  reached : Option ℕ → Option State
  reached None = None
  reached (Some j) = Some (record { marks = drop j ms; held = hs })

pub reached_as : (ms : List (Option ℕ)) (hs : List Held) (o : Option ℕ) (r q : Option State) → q ≡ r → IsReached ms hs o r → IsReached ms hs o q
reached_as ms hs None r q e h = e ∙ h
reached_as ms hs (Some k) r q e h = e ∙ h

-- a term matched, by the heads of the two
pub symbols_matched : (p : Tree) (f : List ℕ) (ps : Trees) (t : Tree) (g : List ℕ) (ts : Trees) (s : State) (b : Bool) → p ≡ apply f ps → t ≡ apply g ts → bytes_eq f g ≡ b → matched p t s ≡ (if b then matched_all ps ts s else None)
symbols_matched p f ps t g ts s b e d n = ap (λ p. matched p t s) e ∙ ap (λ t. matched (apply f ps) t s) d ∙ ap (λ b. if b then matched_all ps ts s else None) n

pub symbol_missed : (p : Tree) (f : List ℕ) (ps : Trees) (t : Term) (s : State) → p ≡ apply f ps → ((g : List ℕ) (ts : TermList) → t ≡ TApp g ts → ⊥) → matched p (tree t) s ≡ None
symbol_missed p f ps (TVar v) s e _ = ap (λ p. matched p (variable v) s) e
symbol_missed p f ps (TPublic n) s e _ = ap (λ p. matched p (public n) s) e
symbol_missed p f ps (TFresh k) s e _ = ap (λ p. matched p (fresh k) s) e
symbol_missed p f ps (TApp g ts) s e other = absurd (other g ts refl)

pub leaf_matched : (p : Term) (t : Tree) (s : State) (b : Bool) → ((v : Var) → p ≡ TVar v → ⊥) → ((g : List ℕ) (ts : TermList) → p ≡ TApp g ts → ⊥) → same_tree (tree p) t ≡ b → matched (tree p) t s ≡ (if b then Some s else None)
leaf_matched (TVar v) t s b other _ e = absurd (other v refl)
leaf_matched (TPublic n) t s b _ _ e = ap (λ b. if b then Some s else None) e
leaf_matched (TFresh k) t s b _ _ e = ap (λ b. if b then Some s else None) e
leaf_matched (TApp g ts) t s b _ other e = absurd (other g ts refl)

lost : (o : Option State) (f : State → Option State) → ((s : State) → f s ≡ None) → onward o f ≡ None
lost None f h = refl
lost (Some s) f h = h s

pub all_lengths : (ps ts : List Tree) (s : State) → (length ps ≡ length ts → ⊥) → matched_all (trees_of ps) (trees_of ts) s ≡ None
all_lengths [] [] s h = absurd (h refl)
all_lengths [] (t ∷ ts) s h = refl
all_lengths (p ∷ ps) [] s h = refl
all_lengths (p ∷ ps) (t ∷ ts) s h = lost (matched p t s) (matched_all (trees_of ps) (trees_of ts)) (λ r. all_lengths ps ts r (λ e. h (omega (arith, e))))

pub ruleset each_laws = (front_same, front_on, all_more, all_end, all_lengths)

pub ruleset front_laws = (front_same, front_on)
