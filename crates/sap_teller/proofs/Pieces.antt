-- What comes of a line, piece by piece.
use Rattle.std.proofs.Common.{◌≡◌, ◌+◌, ℕ, Bool, true, false, ◌&&◌, codes, List, [], ◌∷◌, ◌++◌, zero, suc, length, take, drop, map, Option, Some, nat_eq, refl, sym, ap, ◌∙◌, ◌⊎◌, inl, inr, append_assoc, add-one, arith}
use Rattle.std.specs.Cmp.{unsigned_Decides}
use Rattle.std.specs.Prelude.{slice_get}
use Rattle.std.proofs.lemmas.List.{append-nil}
use Rattle.sap_called.specs.Names.{Draw}
use Rattle.sap_grammar.specs.Pieces.{joined}
use Rattle.sap_lines.specs.Lines as lines
use Rattle.sap_lines.specs.Lines.{IsProcessLine}
use Rattle.sap_process.specs.Configuration.{Config}
use Rattle.sap_runs.specs.Inner.{InnerAction}
use Rattle.sap_runs.specs.Limits.{HasFewNodes}
use Rattle.sap_runs.specs.declared.process_step.PStep.{PStep}
use Rattle.sap_terms.specs.Signature.{Sig}
use Rattle.sap_terms.specs.Tree.{Tree}
use Rattle.sap_terms.specs.declared.fact.Fact.{Fact}
use Rattle.sap_tell.specs.ToldText.{shows_text, knows_text, known_texts, seen_texts, outcomes_text}
use Rattle.sap_teller.specs.code.Outcomes.{before_outcome, outcomes_from, still_first, known_text, shown_texts}

suc_not : (k : ℕ) → nat_eq (suc k) 0 ≡ false
suc_not k = at (nat_eq (suc k) 0) refl where
  at : (b : Bool) → nat_eq (suc k) 0 ≡ b → nat_eq (suc k) 0 ≡ false
  at true e = let never : suc k ≡ 0 = (unsigned_Decides (suc k) 0).0 e in absurd (omega arith)
  at false e = e

pub one_outcome : (first : Bool) (o : List ℕ) → outcomes_from first (o ∷ []) ≡ before_outcome first ++ o
one_outcome first o = ap (λ x. before_outcome first ++ x) (append-nil o)

-- one more of them
pub outcomes_next : {X : Type 0} (f : X → List ℕ) (first : Bool) (xs : List X) (k : ℕ) (x : X) → slice_get xs k ≡ Some x
    → outcomes_from first (map f (take (k + 1) xs)) ≡ outcomes_from first (map f (take k xs)) ++ (before_outcome (first && nat_eq k 0) ++ f x)
outcomes_next f first [] k x h = cc
outcomes_next f true (y ∷ ys) zero x h = let e : y ≡ x = cc in ap (λ z. before_outcome true ++ z) (append-nil (f y) ∙ ap f e)
outcomes_next f false (y ∷ ys) zero x h = let e : y ≡ x = cc in ap (λ z. before_outcome false ++ z) (append-nil (f y) ∙ ap f e)
outcomes_next f first (y ∷ ys) (suc k) x h =
    let rest = outcomes_next f false ys k x h in
    let more = rw (add-one k) at rest in
    let last = before_outcome false ++ f x in
    let same : (first && nat_eq (suc k) 0) ≡ false = by first in
    rw (add-one (suc k)) (ap (λ z. before_outcome first ++ (f y ++ z)) more
    ∙ ap (λ z. before_outcome first ++ z) (sym (append_assoc (f y) (outcomes_from false (map f (take k ys))) last))
    ∙ sym (append_assoc (before_outcome first) (f y ++ outcomes_from false (map f (take k ys))) last)
    ∙ ap (λ b. (before_outcome first ++ (f y ++ outcomes_from false (map f (take k ys)))) ++ (before_outcome b ++ f x)) (sym same)) where
      by : (b : Bool) → (b && nat_eq (suc k) 0) ≡ false
      by true = suc_not k
      by false = refl

pub outcomes_append : (first : Bool) (xs ys : List (List ℕ)) → outcomes_from first (xs ++ ys) ≡ outcomes_from first xs ++ outcomes_from (still_first first xs) ys
outcomes_append first [] ys = refl
outcomes_append first (x ∷ xs) ys =
    let rest = outcomes_append false xs ys in
    let later = outcomes_from (still_first false xs) ys in
    let never : still_first false xs ≡ false = no xs in
    ap (λ z. before_outcome first ++ (x ++ z)) rest
    ∙ ap (λ z. before_outcome first ++ z) (sym (append_assoc x (outcomes_from false xs) later))
    ∙ sym (append_assoc (before_outcome first) (x ++ outcomes_from false xs) later)
    ∙ ap (λ b. (before_outcome first ++ (x ++ outcomes_from false xs)) ++ outcomes_from b ys) never where
      no : (xs : List (List ℕ)) → still_first false xs ≡ false
      no [] = refl
      no (x ∷ xs) = refl

joined_from : (o : List ℕ) (os : List (List ℕ)) → joined (codes ", ") (o ∷ os) ≡ o ++ outcomes_from false os
joined_from o [] = sym (append-nil o)
joined_from o (p ∷ os) = ap (λ z. o ++ (codes ", " ++ z)) (joined_from p os)

pub outcomes_all : (os : List (List ℕ)) → outcomes_text os ≡ outcomes_from true os
outcomes_all [] = refl
outcomes_all (o ∷ os) = ap (λ z. codes " -- " ++ z) (joined_from o os)

-- the entries behind a line are those before it, or one more
pub line_entries : {g : Sig} {c d : Config} {es fs : List Tree} {step : PStep} {inner : List InnerAction} {label : List Fact} → IsProcessLine g HasFewNodes c es step inner label d fs → (fs ≡ es) ⊎ ((x : Tree) × (fs ≡ es ++ x ∷ []))
line_entries (lines.ends t r) = inl refl
line_entries (lines.splits t r) = inl refl
line_entries (lines.copies t r) = inl refl
line_entries (lines.makes_name t n r u) = inl refl
line_entries (lines.outputs {n = n} t r f w) = inr (n, refl)
line_entries (lines.outputs_on {u = u} t k r e f h w) = inr (u, refl)
line_entries (lines.inputs t k σ r e f) = inl refl
line_entries (lines.inputs_on t k σ r e m q w) = inl refl
line_entries (lines.meets s t σ r u q f w) = inl refl
line_entries (lines.agrees t r f u e w) = inl refl
line_entries (lines.differs t r f u e w) = inl refl
line_entries (lines.shows t r f w) = inl refl
line_entries (lines.inserts t r f u w) = inl refl
line_entries (lines.deletes t r f w) = inl refl
line_entries (lines.finds t r f e w) = inl refl
line_entries (lines.misses t r f e w) = inl refl
line_entries (lines.locks t r f e w) = inl refl
line_entries (lines.unlocks t r f w) = inl refl
line_entries (lines.embeds t ks b σ left acts right r m v a l k e q w) = inl refl
line_entries (lines.names n u) = inr (_, refl)
line_entries (lines.writes a) = inr (_, refl)
line_entries (lines.applies f ks ts x p a m n w) = inr (x, refl)
line_entries (lines.knows k x e) = inl refl

none_more : (ds : List Draw) (es : List Tree) (k : ℕ) → known_texts ds k (drop (length es) es) ≡ known_text ds k (slice_get es (length es))
none_more ds [] k = refl
none_more ds (e ∷ es) k = none_more ds es k

one_more : (ds : List Draw) (es : List Tree) (x : Tree) (k : ℕ) → known_texts ds k (drop (length es) (es ++ x ∷ [])) ≡ known_text ds k (slice_get (es ++ x ∷ []) (length es))
one_more ds [] x k = refl
one_more ds (e ∷ es) x k = one_more ds es x k

-- so this is what is seen
pub seen_is : (ds : List Draw) (label : List Fact) (es fs : List Tree) → (fs ≡ es) ⊎ ((x : Tree) × (fs ≡ es ++ x ∷ [])) → seen_texts ds label es fs ≡ shown_texts ds label (length es) (slice_get fs (length es))
seen_is ds label es fs (inl e) = ap (λ k. map (shows_text ds) label ++ k) ((λ i. known_texts ds (length es) (drop (length es) (e i))) ∙ none_more ds es (length es) ∙ (λ i. known_text ds (length es) (slice_get (sym e i) (length es))))
seen_is ds label es fs (inr h) = ap (λ k. map (shows_text ds) label ++ k) ((λ i. known_texts ds (length es) (drop (length es) (h.1 i))) ∙ one_more ds es h.0 (length es) ∙ (λ i. known_text ds (length es) (slice_get (sym h.1 i) (length es))))

still_counted : {X : Type 0} (f : X → List ℕ) (first : Bool) (xs : List X) → still_first first (map f xs) ≡ (first && nat_eq (length xs) 0)
still_counted f true [] = refl
still_counted f false [] = refl
still_counted f true (x ∷ xs) = sym (suc_not (length xs))
still_counted f false (x ∷ xs) = refl

-- what is shown, and then an entry
pub seen_known : (ds : List Draw) (text : List ℕ) (label : List Fact) (k : ℕ) (o : Option Tree) (x : Tree) → Some x ≡ o
    → (text ++ outcomes_from true (map (shows_text ds) label)) ++ (before_outcome (nat_eq (length label) 0) ++ knows_text ds k x) ≡ text ++ outcomes_from true (shown_texts ds label k o)
seen_known ds text label k o x e =
    let shows = map (shows_text ds) label in
    let last = knows_text ds k x in
    append_assoc text (outcomes_from true shows) (before_outcome (nat_eq (length label) 0) ++ last)
    ∙ ap (λ z. text ++ z) (ap (λ b. outcomes_from true shows ++ (before_outcome b ++ last)) (sym (still_counted (shows_text ds) true label))
    ∙ ap (λ z. outcomes_from true shows ++ z) (sym (one_outcome (still_first true shows) last)) ∙ sym (outcomes_append true shows (last ∷ [])) ∙ (λ i. outcomes_from true (shown_texts ds label k (e i))))

-- outcomes behind others
pub two_lists : {X Y : Type 0} (f : X → List ℕ) (h : Y → List ℕ) (text : List ℕ) (first : Bool) (xs : List X) (ys : List Y)
    → (text ++ outcomes_from first (map f xs)) ++ outcomes_from (first && nat_eq (length xs) 0) (map h ys) ≡ text ++ outcomes_from first (map f xs ++ map h ys)
two_lists f h text first xs ys =
    append_assoc text (outcomes_from first (map f xs)) (outcomes_from (first && nat_eq (length xs) 0) (map h ys))
    ∙ ap (λ z. text ++ z) (ap (λ b. outcomes_from first (map f xs) ++ outcomes_from b (map h ys)) (sym (still_counted f first xs)) ∙ sym (outcomes_append first (map f xs) (map h ys)))

pub body_pushed : (text action : List ℕ) (shown others : List (List ℕ)) → ((text ++ action) ++ outcomes_from true shown) ++ outcomes_from (still_first true shown) others ≡ text ++ (action ++ outcomes_from true (shown ++ others))
body_pushed text action shown others =
    append_assoc (text ++ action) (outcomes_from true shown) (outcomes_from (still_first true shown) others) ∙ append_assoc text action (outcomes_from true shown ++ outcomes_from (still_first true shown) others)
    ∙ ap (λ z. text ++ (action ++ z)) (sym (outcomes_append true shown others))

-- one more outcome of a list
pub pushed_next : {X : Type 0} (f : X → List ℕ) (first : Bool) (xs : List X) (k : ℕ) (x : X) (text was new : List ℕ) → slice_get xs k ≡ Some x → was ≡ text ++ outcomes_from first (map f (take k xs))
    → new ≡ was ++ (before_outcome (first && nat_eq k 0) ++ f x) → new ≡ text ++ outcomes_from first (map f (take (k + 1) xs))
pushed_next f first xs k x text was new at h n =
    let last = before_outcome (first && nat_eq k 0) ++ f x in
    n ∙ ap (λ z. z ++ last) h ∙ append_assoc text (outcomes_from first (map f (take k xs))) last ∙ ap (λ z. text ++ z) (sym (outcomes_next f first xs k x at))
