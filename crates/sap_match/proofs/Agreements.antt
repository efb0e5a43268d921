-- Terms with slots compared step by step.
use Rattle.std.proofs.Common.{◌≡◌, ℕ, zero, suc, ◌+◌, ◌<◌, ◌≤◌, List, [], ◌∷◌, false, if◌then◌else◌, Option, Some, None, length, drop, take, slice_get, map, refl, sym, ap, ◌∙◌, arith}
use Rattle.std.specs.Prelude.{option_map}
use Rattle.std.proofs.Math.ListN.{drop_of_length-le}
use Rattle.std.proofs.Math.Seq.{take-append_seam}
use Rattle.sap_terms.proofs.PlainLaws.Lists.{drop_got}
use Rattle.sap_match.specs.Atoms.{Held}
use Rattle.sap_match.specs.Matched.{State, Two, agreed, agreed_all, agreed_left, agreed_leaf, agreed_right, behind, matched, next_term, onward, term_in}
use Rattle.sap_match.specs.code.Reached.{IsReached, left_marks, two_at}
use Rattle.sap_match.specs.Matched.{StaysInFront}
use Rattle.sap_match.specs.View.{held}
use Rattle.sap_match.specs.declared.agreeing.Places.{Places}
use Rattle.sap_match.specs.declared.atom.Value.{Value}
use Rattle.std.specs.Str.{bytes_eq}
use Rattle.sap_terms.specs.Tree.{Tree, Trees, apply, fresh, none, public, trees_of, variable}
use Rattle.sap_terms.specs.View.{tree}
use Rattle.sap_terms.specs.declared.term.Term.{Term}
use Rattle.sap_terms.specs.declared.term.Term.TheVariants.{Var as TVar, Public as TPublic, Fresh as TFresh, App as TApp}
use Rattle.sap_terms.specs.declared.term.TermList.{TermList}
use Rattle.sap_terms.specs.declared.var.Var.{Var}

-- what was put behind, cut off
pub cut : {X : Type 0} (old new : List X) → StaysInFront old new → take (length old) new ≡ old
cut old new (more, e) = ap (take (length old)) e ∙ take-append_seam old more

pub read_to : (marks : List (Option ℕ)) (held : List Held) (o : Option ℕ) (r : Option State) → IsReached marks held o r → option_map (λ k. drop k marks) o ≡ left_marks r
read_to marks held None r e = ap left_marks (sym e)
read_to marks held (Some k) r e = ap left_marks (sym e)

pub ruleset still_laws = (cut, read_to)

pub next_got : (marks : List (Option ℕ)) (at : ℕ) (k : ℕ) (held : List Held) → slice_get marks at ≡ Some (Some k) → next_term (drop at marks) held ≡ term_in (slice_get held k)
next_got marks at k held h = ap (λ l. next_term l held) (drop_got marks at (Some k) h)

pub next_free : (marks : List (Option ℕ)) (at : ℕ) (held : List Held) → slice_get marks at ≡ Some None → next_term (drop at marks) held ≡ None
next_free marks at held h = ap (λ l. next_term l held) (drop_got marks at None h)

pub next_end : (marks : List (Option ℕ)) (at : ℕ) (held : List Held) → length marks ≤ at → next_term (drop at marks) held ≡ None
next_end marks at held h = ap (λ l. next_term l held) (drop_of_length-le marks h)

pub ruleset next_laws = (next_got, next_free, next_end)

-- the marks behind the next
pub behind_drop : (marks : List (Option ℕ)) (at : ℕ) → at < length marks → behind (drop at marks) ≡ drop (at + 1) marks
behind_drop [] at h = absurd (omega arith)
behind_drop (m ∷ ms) zero h = refl
behind_drop (m ∷ ms) (suc k) h = let n : suc k + 1 ≡ suc (k + 1) = omega arith in rw n (behind_drop ms k (omega arith))

pub onward_none : {X Y : Type 0} (o : Option X) (f : X → Option Y) → o ≡ None → onward o f ≡ None
onward_none o f e = ap (λ z. onward z f) e

-- what is left where a term matched, or didn't
pub left_none : (o : Option State) (f : State → Option Two) → left_marks o ≡ None → onward o f ≡ None
left_none None f e = refl
left_none (Some s) f e = absurd (cc)

pub left_some : (o : Option State) (ms : List (Option ℕ)) → left_marks o ≡ Some ms → (s : State) × (o ≡ Some s) × (s.marks ≡ ms)
left_some None ms e = absurd (cc)
left_some (Some s) ms e = (s, refl, let q : s.marks ≡ ms = cc in q)

pub left_done : (t u : Tree) (left right : List (Option ℕ)) (p : Places) (next : ℕ) (held : List Held) → next_term (drop p.left left) held ≡ Some u → p.left < length left → left_marks (matched t u (record { marks = drop p.right right; held = held })) ≡ Some (drop next right) → agreed_left t (two_at left right p) held ≡ Some (two_at left right (record { left = p.left + 1; right = next }))
left_done t u left right p next held h l e =
    let r = left_some (matched t u (record { marks = drop p.right right; held = held })) (drop next right) e in
    ap (λ o. onward o (λ u. onward (matched t u (record { marks = drop p.right right; held = held })) (λ s. Some (record { left = behind (drop p.left left); right = s.marks })))) h ∙ ap (λ o. onward o (λ s. Some (record { left = behind (drop p.left left); right = s.marks }))) r.1 ∙ (λ i. Some (record { left = behind_drop left p.left l i; right = r.2 i }))

pub left_missed : (t u : Tree) (left right : List (Option ℕ)) (p : Places) (held : List Held) → next_term (drop p.left left) held ≡ Some u → left_marks (matched t u (record { marks = drop p.right right; held = held })) ≡ None → agreed_left t (two_at left right p) held ≡ None
left_missed t u left right p held h e =
    ap (λ o. onward o (λ u. onward (matched t u (record { marks = drop p.right right; held = held })) (λ s. Some (record { left = behind (drop p.left left); right = s.marks })))) h ∙ left_none (matched t u (record { marks = drop p.right right; held = held })) (λ s. Some (record { left = behind (drop p.left left); right = s.marks })) e

pub left_free : (t : Tree) (left right : List (Option ℕ)) (p : Places) (held : List Held) → next_term (drop p.left left) held ≡ None → agreed_left t (two_at left right p) held ≡ None
left_free t left right p held h = onward_none (next_term (drop p.left left) held) (λ u. onward (matched t u (record { marks = drop p.right right; held = held })) (λ s. Some (record { left = behind (drop p.left left); right = s.marks }))) h

pub right_done : (s u : Tree) (left right : List (Option ℕ)) (p : Places) (next : ℕ) (held : List Held) → next_term (drop p.right right) held ≡ Some u → p.right < length right → left_marks (matched s u (record { marks = drop p.left left; held = held })) ≡ Some (drop next left) → agreed_right s (two_at left right p) held ≡ Some (two_at left right (record { left = next; right = p.right + 1 }))
right_done s u left right p next held h l e =
    let r = left_some (matched s u (record { marks = drop p.left left; held = held })) (drop next left) e in
    ap (λ o. onward o (λ u. onward (matched s u (record { marks = drop p.left left; held = held })) (λ r. Some (record { left = r.marks; right = behind (drop p.right right) })))) h ∙ ap (λ o. onward o (λ r. Some (record { left = r.marks; right = behind (drop p.right right) }))) r.1 ∙ (λ i. Some (record { left = r.2 i; right = behind_drop right p.right l i }))

pub right_missed : (s u : Tree) (left right : List (Option ℕ)) (p : Places) (held : List Held) → next_term (drop p.right right) held ≡ Some u → left_marks (matched s u (record { marks = drop p.left left; held = held })) ≡ None → agreed_right s (two_at left right p) held ≡ None
right_missed s u left right p held h e =
    ap (λ o. onward o (λ u. onward (matched s u (record { marks = drop p.left left; held = held })) (λ r. Some (record { left = r.marks; right = behind (drop p.right right) })))) h ∙ left_none (matched s u (record { marks = drop p.left left; held = held })) (λ r. Some (record { left = r.marks; right = behind (drop p.right right) })) e

pub right_free : (s : Tree) (left right : List (Option ℕ)) (p : Places) (held : List Held) → next_term (drop p.right right) held ≡ None → agreed_right s (two_at left right p) held ≡ None
right_free s left right p held h = onward_none (next_term (drop p.right right) held) (λ u. onward (matched s u (record { marks = drop p.left left; held = held })) (λ r. Some (record { left = r.marks; right = behind (drop p.right right) }))) h

pub leaf_done : (s t : Tree) (left right : List (Option ℕ)) (p : Places) (next : ℕ) (held : List Held) → left_marks (matched t s (record { marks = drop p.right right; held = held })) ≡ Some (drop next right) → agreed_leaf s t (two_at left right p) held ≡ Some (two_at left right (record { left = p.left; right = next }))
leaf_done s t left right p next held e =
    let r = left_some (matched t s (record { marks = drop p.right right; held = held })) (drop next right) e in
    ap (λ o. onward o (λ r. Some (record { left = drop p.left left; right = r.marks }))) r.1 ∙ (λ i. Some (record { left = drop p.left left; right = r.2 i }))

pub leaf_missed : (s t : Tree) (left right : List (Option ℕ)) (p : Places) (held : List Held) → left_marks (matched t s (record { marks = drop p.right right; held = held })) ≡ None → agreed_leaf s t (two_at left right p) held ≡ None
leaf_missed s t left right p held e = left_none (matched t s (record { marks = drop p.right right; held = held })) (λ r. Some (record { left = drop p.left left; right = r.marks })) e

pub ruleset left_laws = (left_done, left_missed, left_free)

pub ruleset right_laws = (right_done, right_missed, right_free)

pub ruleset leaf_laws = (leaf_done, leaf_missed)

-- one more of two lists
pub each_more : (ss ts : List Tree) (k : ℕ) (a b : Tree) (w : Two) (held : List Held) → slice_get ss k ≡ Some a → slice_get ts k ≡ Some b → agreed_all (trees_of (drop k ss)) (trees_of (drop k ts)) w held ≡ onward (agreed a b w held) (λ r. agreed_all (trees_of (drop (k + 1) ss)) (trees_of (drop (k + 1) ts)) r held)
each_more ss ts k a b w held h g =
    let e = drop_got ss k a h in
    let d = drop_got ts k b g in
    λ i. agreed_all (trees_of (e i)) (trees_of (d i)) w held

pub each_end : (ss ts : List Tree) (k : ℕ) (w : Two) (held : List Held) → length ss ≤ k → length ts ≤ k → agreed_all (trees_of (drop k ss)) (trees_of (drop k ts)) w held ≡ Some w
each_end ss ts k w held h l = ap (λ xs. agreed_all (trees_of xs) (trees_of (drop k ts)) w held) (drop_of_length-le ss h) ∙ ap (λ ys. agreed_all none (trees_of ys) w held) (drop_of_length-le ts l)

pub each_agreed : (ss ts : List Tree) (k : ℕ) (a b : Tree) (w r : Two) (vs ws : List Value) (o : Option Two) → slice_get ss k ≡ Some a → slice_get ts k ≡ Some b → o ≡ agreed a b w (map held vs) → o ≡ Some r → ws ≡ vs → agreed_all (trees_of (drop k ss)) (trees_of (drop k ts)) w (map held vs) ≡ agreed_all (trees_of (drop (k + 1) ss)) (trees_of (drop (k + 1) ts)) r (map held ws)
each_agreed ss ts k a b w r vs ws o h g e d s = each_more ss ts k a b w (map held vs) h g ∙ ap (λ o. onward o (λ r. agreed_all (trees_of (drop (k + 1) ss)) (trees_of (drop (k + 1) ts)) r (map held vs))) (sym e ∙ d) ∙ ap (λ vs. agreed_all (trees_of (drop (k + 1) ss)) (trees_of (drop (k + 1) ts)) r (map held vs)) (sym s)

pub each_differs : (ss ts : List Tree) (k : ℕ) (a b : Tree) (w : Two) (held : List Held) (o : Option Two) → slice_get ss k ≡ Some a → slice_get ts k ≡ Some b → o ≡ agreed a b w held → o ≡ None → agreed_all (trees_of (drop k ss)) (trees_of (drop k ts)) w held ≡ None
each_differs ss ts k a b w held o h g e d = each_more ss ts k a b w held h g ∙ ap (λ o. onward o (λ r. agreed_all (trees_of (drop (k + 1) ss)) (trees_of (drop (k + 1) ts)) r held)) (sym e ∙ d)

-- where the right term alone is a variable, and where two symbols differ
pub right_is : (s : Tree) (f : List ℕ) (ss : Trees) (t : Tree) (v : Var) (w : Two) (held : List Held) → s ≡ apply f ss → t ≡ variable v → agreed_right s w held ≡ agreed s t w held
right_is s f ss t v w held e d = ap (λ s. agreed_right s w held) e ∙ sym (ap (λ s. agreed s t w held) e ∙ ap (λ t. agreed (apply f ss) t w held) d)

pub symbols_differ : (s : Tree) (f : List ℕ) (ss : Trees) (t : Tree) (g : List ℕ) (ts : Trees) (w : Two) (held : List Held) → s ≡ apply f ss → t ≡ apply g ts → bytes_eq f g ≡ false → agreed s t w held ≡ None
symbols_differ s f ss t g ts w held e d n = ap (λ s. agreed s t w held) e ∙ ap (λ t. agreed (apply f ss) t w held) d ∙ ap (λ b. if b then agreed_all ss ts w held else None) n

-- where one of the terms, or both, have neither a variable nor a symbol at their head
pub kinds_differ : (s : Tree) (f : List ℕ) (ss : Trees) (t : Term) (w : Two) (held : List Held) → s ≡ apply f ss → ((v : Var) → t ≡ TVar v → ⊥) → ((g : List ℕ) (ts : TermList) → t ≡ TApp g ts → ⊥) → agreed s (tree t) w held ≡ None
kinds_differ s f ss (TVar v) w held e other _ = absurd (other v refl)
kinds_differ s f ss (TPublic n) w held e _ _ = ap (λ s. agreed s (public n) w held) e
kinds_differ s f ss (TFresh k) w held e _ _ = ap (λ s. agreed s (fresh k) w held) e
kinds_differ s f ss (TApp g ts) w held e _ other = absurd (other g ts refl)

pub leaf_is : (s : Term) (t : Tree) (w : Two) (held : List Held) → ((v : Var) → s ≡ TVar v → ⊥) → ((g : List ℕ) (ts : TermList) → s ≡ TApp g ts → ⊥) → agreed_leaf (tree s) t w held ≡ agreed (tree s) t w held
leaf_is (TVar v) t w held other _ = absurd (other v refl)
leaf_is (TPublic n) t w held _ _ = refl
leaf_is (TFresh k) t w held _ _ = refl
leaf_is (TApp g ts) t w held _ other = absurd (other g ts refl)

lost : (o : Option Two) (f : Two → Option Two) → ((s : Two) → f s ≡ None) → onward o f ≡ None
lost None f h = refl
lost (Some s) f h = h s

pub each_lengths : (ss ts : List Tree) (w : Two) (held : List Held) → (length ss ≡ length ts → ⊥) → agreed_all (trees_of ss) (trees_of ts) w held ≡ None
each_lengths [] [] w held h = absurd (h refl)
each_lengths [] (t ∷ ts) w held h = refl
each_lengths (s ∷ ss) [] w held h = refl
each_lengths (s ∷ ss) (t ∷ ts) w held h = lost (agreed s t w held) (λ r. agreed_all (trees_of ss) (trees_of ts) r held) (λ r. each_lengths ss ts r held (λ e. h (omega (arith, e))))

pub ruleset each_laws = (each_more, each_end, each_lengths)
