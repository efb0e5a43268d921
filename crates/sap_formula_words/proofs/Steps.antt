-- What the walks do at each word, each term and each binder.
use Rattle.std.proofs.Common.{◌≡◌, ◌<◌, ◌+◌, ◌-◌, ℕ, zero, suc, Bool, true, false, List, [], ◌∷◌, length, drop, Some, Ok, Err, refl, ap, ◌∙◌, arith}
use Rattle.std.specs.Prelude.{slice_get, if◌then◌else◌}
use Rattle.sap_terms.specs.Tree.{Tree, trees_of}
use Rattle.sap_terms.proofs.PlainLaws.Lists.{drop_got}
use Rattle.sap_formula.specs.declared.binder.Binder.{Binder}
use Rattle.sap_grammar.specs.Words.{Word, starts}
use Rattle.sap_formula_words.specs.code.Walk.{starts_opening, starts_closing, open_behind, behind_open, behind_all, Spot, go_on, seek, seek_all, onward, past_words, signed_walk, term_walk, list_walk, binders_walk}

pub open_step : (ws : List Word) (n : ℕ) → 0 < n → open_behind ws n ≡ (if starts_opening ws then n + 1 else if starts_closing ws then n - 1 else n)
open_step ws zero h = absurd (omega (arith, h))
open_step ws (suc n) h = go (starts_opening ws) (starts_closing ws)
  where
    go : (b c : Bool) → (if b then suc (suc n) else if c then n else suc n) ≡ (if b then suc n + 1 else if c then suc n - 1 else suc n)
    go true c = omega arith
    go false true = omega arith
    go false false = refl

pub ruleset open_steps = (open_step)

-- one word further
pub behind_step : (n : ℕ) (ws : List Word) → 0 < n → 0 < length ws → behind_open n ws ≡ behind_open (open_behind ws n) (drop 1 ws)
behind_step zero ws h some = absurd (omega (arith, h))
behind_step (suc n) [] h some = absurd (omega (arith, some))
behind_step (suc n) (w ∷ ws) h some = refl

-- nothing is open, or nothing left
pub behind_none : (ws : List Word) → behind_open 0 ws ≡ ws
behind_none ws = refl

pub behind_nothing : (n : ℕ) (ws : List Word) → length ws ≡ 0 → behind_open n ws ≡ ws
behind_nothing zero ws h = refl
behind_nothing (suc n) [] h = refl
behind_nothing (suc n) (w ∷ ws) h = absurd (omega (arith, h))

-- while a mark stands first
pub all_step : (m : List ℕ) (ws : List Word) → starts m ws ≡ true → behind_all m ws ≡ behind_all m (drop 1 ws)
all_step m [] h = refl
all_step m (w ∷ ws) h = rw h refl

pub all_end : (m : List ℕ) (ws : List Word) → starts m ws ≡ false → behind_all m ws ≡ ws
all_end m [] h = refl
all_end m (w ∷ ws) h = rw h refl

-- terms from number n on: the first of them, and no more
module _ (ts : List Tree) (n k m : ℕ) where
  pub all_found : (j : ℕ) (t : Tree) → slice_get ts n ≡ Some t → seek t k m ≡ Err j → seek_all (trees_of (drop n ts)) k m ≡ Err j
  unfolding seek seek_all go_on
  all_found j t h e = ap (λ us. seek_all (trees_of us) k m) (drop_got ts n t h) ∙ ap (λ w. go_on w (seek_all (trees_of (drop (n + 1) ts)))) e

  pub all_go_on : (i j : ℕ) (t : Tree) → slice_get ts n ≡ Some t → seek t k m ≡ Ok (i, j) → seek_all (trees_of (drop n ts)) k m ≡ seek_all (trees_of (drop (n + 1) ts)) i j
  unfolding seek seek_all go_on
  all_go_on i j t h e = ap (λ us. seek_all (trees_of us) k m) (drop_got ts n t h) ∙ ap (λ w. go_on w (seek_all (trees_of (drop (n + 1) ts)))) e

nothing : {A : Type 0} (xs : List A) (n : ℕ) → n ≡ length xs → drop n xs ≡ []
nothing [] zero e = refl
nothing [] (suc n) e = refl
nothing (x ∷ xs) zero e = absurd (omega (arith, e))
nothing (x ∷ xs) (suc n) e = nothing xs n (omega (arith, e))

pub all_end_here : (ts : List Tree) (n k m : ℕ) → n ≡ length ts → seek_all (trees_of (drop n ts)) k m ≡ Ok (k, m)
unfolding seek seek_all
all_end_here ts n k m e = ap (λ us. seek_all (trees_of us) k m) (nothing ts n e)

-- so of the words of terms
module _ (ts : List Tree) (n k : ℕ) (ws : List Word) where
  list_step : (t : Tree) → slice_get ts n ≡ Some t → list_walk (drop n ts) k ws ≡ onward (past_words 1 (term_walk t k ws)) (list_walk (drop (n + 1) ts))
  unfolding list_walk
  list_step t h = ap (λ us. list_walk us k ws) (drop_got ts n t h)

  pub list_found : (s : Spot) (t : Tree) → slice_get ts n ≡ Some t → past_words 1 (term_walk t k ws) ≡ Err s → list_walk (drop n ts) k ws ≡ Err s
  unfolding onward
  list_found s t h e = list_step t h ∙ ap (λ w. onward w (list_walk (drop (n + 1) ts))) e

  pub list_goes_on : (j : ℕ) (us : List Word) (t : Tree) → slice_get ts n ≡ Some t → past_words 1 (term_walk t k ws) ≡ Ok (j, us) → list_walk (drop n ts) k ws ≡ list_walk (drop (n + 1) ts) j us
  unfolding onward
  list_goes_on j us t h e = list_step t h ∙ ap (λ w. onward w (list_walk (drop (n + 1) ts))) e

pub list_ends : (ts : List Tree) (n k : ℕ) (ws : List Word) → n ≡ length ts → list_walk (drop n ts) k ws ≡ Ok (k, ws)
unfolding list_walk
list_ends ts n k ws e = ap (λ us. list_walk us k ws) (nothing ts n e)

-- and of bound variables
some_item : {A : Type 0} (xs : List A) (n : ℕ) → n < length xs → (x : A) × (slice_get xs n ≡ Some x)
some_item [] n h = absurd (omega (arith, h))
some_item (x ∷ xs) zero h = (x, refl)
some_item (x ∷ xs) (suc n) h = some_item xs n (omega (arith, h))

module _ (vs : List Binder) (n k : ℕ) (ws : List Word) where
  binders_step : n < length vs → binders_walk (drop n vs) k ws ≡ onward (signed_walk k ws) (binders_walk (drop (n + 1) vs))
  unfolding binders_walk
  binders_step h = let item = some_item vs n h in ap (λ us. binders_walk us k ws) (drop_got vs n item.0 item.1)

  pub binders_found : (s : Spot) → n < length vs → signed_walk k ws ≡ Err s → binders_walk (drop n vs) k ws ≡ Err s
  unfolding onward
  binders_found s h e = binders_step h ∙ ap (λ w. onward w (binders_walk (drop (n + 1) vs))) e

  pub binders_go_on : (j : ℕ) (us : List Word) → n < length vs → signed_walk k ws ≡ Ok (j, us) → binders_walk (drop n vs) k ws ≡ binders_walk (drop (n + 1) vs) j us
  unfolding onward
  binders_go_on j us h e = binders_step h ∙ ap (λ w. onward w (binders_walk (drop (n + 1) vs))) e

pub binders_end_here : (vs : List Binder) (n k : ℕ) (ws : List Word) → n ≡ length vs → binders_walk (drop n vs) k ws ≡ Ok (k, drop 1 ws)
unfolding binders_walk
binders_end_here vs n k ws e = ap (λ us. binders_walk us k ws) (nothing vs n e)

pub ruleset seek_steps = (all_found, all_go_on, all_end_here)

pub ruleset list_steps = (list_found, list_goes_on, list_ends)

pub ruleset binder_steps = (binders_found, binders_go_on, binders_end_here)
