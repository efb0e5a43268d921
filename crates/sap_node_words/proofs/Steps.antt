-- What the walks do at each list of terms.
use Rattle.std.proofs.Common.{◌≡◌, ◌≢◌, ◌<◌, ◌+◌, ℕ, zero, suc, true, List, [], ◌∷◌, length, drop, Some, None, Ok, Err, refl, ap, ◌∙◌, arith}
use Rattle.std.specs.Prelude.{slice_get}
use Rattle.sap_terms.specs.Tree.{Tree, trees_of}
use Rattle.sap_terms.proofs.PlainLaws.Lists.{drop_got}
use Rattle.sap_grammar.specs.Words.{Word}
use Rattle.sap_node_words.specs.code.Walk.{opened, onward, past_word, is_parted, begins_parted, term_walk, args_walk, list_walk, parts_walk, rest_walk}

-- words that open nothing
pub opens_less : (ts : List Tree) (ws : List Word) → 0 < length ts → opened ws ≡ None → is_parted (trees_of ts) ws ≡ true
opens_less [] ws some h = absurd (omega (arith, some))
opens_less (t ∷ ts) ws some h = ap (begins_parted t) h

-- arguments, one or more, are terms
args_are : (ts : List Tree) (k : ℕ) (ws : List Word) → 0 < length ts → args_walk (trees_of ts) k ws ≡ list_walk (trees_of ts) k ws
unfolding term_walk args_walk list_walk parts_walk rest_walk
args_are [] k ws some = absurd (omega (arith, some))
args_are (t ∷ ts) k ws some = refl

-- one term more
list_step : (ts : List Tree) (n k : ℕ) (ws : List Word) (t : Tree) → slice_get ts n ≡ Some t
    → list_walk (trees_of (drop n ts)) k ws ≡ onward (past_word (term_walk t k ws)) (list_walk (trees_of (drop (n + 1) ts)))
unfolding term_walk args_walk list_walk parts_walk rest_walk
list_step ts n k ws t h = rw (drop_got ts n t h) refl

pub list_found : (ts : List Tree) (n k m : ℕ) (ws : List Word) (t : Tree) → slice_get ts n ≡ Some t → past_word (term_walk t k ws) ≡ Err m → list_walk (trees_of (drop n ts)) k ws ≡ Err m
unfolding onward
list_found ts n k m ws t h e = list_step ts n k ws t h ∙ ap (λ w. onward w (list_walk (trees_of (drop (n + 1) ts)))) e

pub list_goes_on : (ts : List Tree) (n k j : ℕ) (ws us : List Word) (t : Tree) → slice_get ts n ≡ Some t → past_word (term_walk t k ws) ≡ Ok (j, us)
    → list_walk (trees_of (drop n ts)) k ws ≡ list_walk (trees_of (drop (n + 1) ts)) j us
unfolding onward
list_goes_on ts n k j ws us t h e = list_step ts n k ws t h ∙ ap (λ w. onward w (list_walk (trees_of (drop (n + 1) ts)))) e

pub list_ends : (ts : List Tree) (n k : ℕ) (ws : List Word) → n ≡ length ts → list_walk (trees_of (drop n ts)) k ws ≡ Ok (k, ws)
unfolding term_walk args_walk list_walk parts_walk rest_walk
list_ends [] zero k ws e = refl
list_ends [] (suc n) k ws e = absurd (omega (arith, e))
list_ends (t ∷ ts) zero k ws e = absurd (omega (arith, e))
list_ends (t ∷ ts) (suc n) k ws e = list_ends ts n k ws (omega (arith, e))

-- two parts, or no tuple
pub no_parts : (ts : List Tree) (k : ℕ) (ws : List Word) → length ts ≢ 2 → parts_walk (trees_of ts) k ws ≡ Ok (k, ws)
unfolding term_walk args_walk list_walk parts_walk rest_walk
no_parts [] k ws other = refl
no_parts (t ∷ []) k ws other = refl
no_parts (t ∷ u ∷ []) k ws other = absurd (other refl)
no_parts (t ∷ u ∷ v ∷ vs) k ws other = refl

two_parts : (ts : List Tree) (k : ℕ) (ws : List Word) (t u : Tree) → length ts ≡ 2 → slice_get ts 0 ≡ Some t → slice_get ts 1 ≡ Some u
    → parts_walk (trees_of ts) k ws ≡ onward (past_word (term_walk t k ws)) (rest_walk u)
unfolding term_walk args_walk list_walk parts_walk rest_walk
two_parts [] k ws t u two first second = absurd (omega (arith, two))
two_parts (x ∷ []) k ws t u two first second = absurd (omega (arith, two))
two_parts (x ∷ y ∷ []) k ws t u two first second =
    let is : x ≡ t = cc (first) in
    let also : y ≡ u = cc (second) in
    ap (λ z. onward (past_word (term_walk z k ws)) (rest_walk y)) is ∙ ap (λ z. onward (past_word (term_walk t k ws)) (rest_walk z)) also
two_parts (x ∷ y ∷ z ∷ zs) k ws t u two first second = absurd (omega (arith, two))

pub parts_found : (ts : List Tree) (k m : ℕ) (ws : List Word) (t : Tree) → length ts ≡ 2 → slice_get ts 0 ≡ Some t → past_word (term_walk t k ws) ≡ Err m → parts_walk (trees_of ts) k ws ≡ Err m
unfolding onward
parts_found [] k m ws t two first e = absurd (omega (arith, two))
parts_found (x ∷ []) k m ws t two first e = absurd (omega (arith, two))
parts_found (x ∷ y ∷ []) k m ws t two first e = two_parts (x ∷ y ∷ []) k ws t y two first refl ∙ ap (λ w. onward w (rest_walk y)) e
parts_found (x ∷ y ∷ z ∷ zs) k m ws t two first e = absurd (omega (arith, two))

pub parts_go_on : (ts : List Tree) (k j : ℕ) (ws us : List Word) (t u : Tree) → length ts ≡ 2 → slice_get ts 0 ≡ Some t → slice_get ts 1 ≡ Some u
    → past_word (term_walk t k ws) ≡ Ok (j, us) → parts_walk (trees_of ts) k ws ≡ rest_walk u j us
unfolding onward
parts_go_on ts k j ws us t u two first second e = two_parts ts k ws t u two first second ∙ ap (λ w. onward w (rest_walk u)) e

pub ruleset parted_steps = (opens_less)
