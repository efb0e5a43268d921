-- The first part that has a fault.
use Rattle.std.proofs.Common.{◌≡◌, ℕ, zero, suc, ◌+◌, List, [], ◌∷◌, ◌++◌, Bool, Bor, true, false, Option, Some, None, length, drop, take, map, refl, sym, ap, ◌∙◌, append_assoc, arith}
use Rattle.std.specs.Prelude.{if◌then◌else◌, slice_get}
use Rattle.std.specs.Option.{option_copied, option_or}
use Rattle.std.specs.Str.{bytes_eq}
use Rattle.sap_terms.specs.Named.{first_named}
use Rattle.sap_terms.proofs.PlainLaws.Lists.{take_got}
use Rattle.sap_terms.proofs.PlainLaws.Trees.{item_le-trees_count}
use Rattle.sap_terms.specs.Signature.{Sig}
use Rattle.sap_terms.specs.Tree.{Tree, apply, more, trees_of, list_of-trees_of}
use Rattle.sap_terms.specs.Choice.{Choice, instance, instances}
use Rattle.sap_formula.specs.Checked.{binder_name, enter, find_binder}
use Rattle.sap_formula.specs.declared.binder.Binder.{Binder}
use Rattle.sap_formula.specs.Parts.{Part, symbol, part_name, term_parts, terms_parts}
use Rattle.sap_formula.specs.code.Tests.{first_name, has_fault}
use Rattle.sap_formula.specs.declared.fault.FormulaFlaw.{FormulaFlaw}

pub first-append : (g : Sig) (r : Bool) (w : FormulaFlaw) (ps qs : List Part) → first_name g r w (ps ++ qs) ≡ option_or (first_name g r w ps) (first_name g r w qs)
first-append g r w [] qs = refl
first-append g r w (p ∷ ps) qs = at (has_fault g r w p) (first-append g r w ps qs) where
  at : (b : Bool) → first_name g r w (ps ++ qs) ≡ option_or (first_name g r w ps) (first_name g r w qs) → (if b then Some (part_name p) else first_name g r w (ps ++ qs)) ≡ option_or (if b then Some (part_name p) else first_name g r w ps) (first_name g r w qs)
  at true e = refl
  at false e = e

-- the binder of a name among the innermost, else one outside
pub find-append : (turned scope : List Binder) (n : List ℕ) → find_binder (turned ++ scope) n ≡ option_or (first_named binder_name turned n) (find_binder scope n)
find-append [] scope n = refl
find-append (b ∷ bs) scope n = at (bytes_eq (binder_name b) n) (find-append bs scope n) where
  at : (t : Bool) → find_binder (bs ++ scope) n ≡ option_or (first_named binder_name bs n) (find_binder scope n) → (if t then Some b else find_binder (bs ++ scope) n) ≡ option_or (if t then Some b else first_named binder_name bs n) (find_binder scope n)
  at true e = refl
  at false e = e

pub ruleset scope_laws = (find-append)

-- the last binder of a quantifier is entered last
pub enter-push : (bs : List Binder) (b : Binder) (scope : List Binder) → enter (bs ++ b ∷ []) scope ≡ b ∷ enter bs scope
enter-push [] b scope = refl
enter-push (c ∷ bs) b scope = enter-push bs b (c ∷ scope)

-- one binder more
pub entered_more : (bs turned longer : List Binder) (k : ℕ) (b : Binder) → slice_get bs k ≡ Some b → longer ≡ turned ++ b ∷ [] → ((scope : List Binder) → enter bs scope ≡ turned ++ enter (take (k + 1) bs) scope)
    → (scope : List Binder) → enter bs scope ≡ longer ++ enter (take k bs) scope
entered_more bs turned longer k b got e i scope =
    i scope ∙ ap (λ cs. turned ++ enter cs scope) (take_got bs k b got) ∙ ap (λ cs. turned ++ cs) (enter-push (take k bs) b scope) ∙ sym (append_assoc turned (b ∷ []) (enter (take k bs) scope)) ∙ ap (λ cs. cs ++ enter (take k bs) scope) (sym e)

-- a name that is lent, else another
pub or-lent : {T : Type 0} (a b : Option (Bor T)) → option_copied (option_or a b) ≡ option_or (option_copied a) (option_copied b)
or-lent None b = refl
or-lent (Some n) b = refl

pub or-none : (o : Option (List ℕ)) → option_or o None ≡ o
or-none None = refl
or-none (Some n) = refl

-- a symbol before its terms
pub first-apply : (g : Sig) (r : Bool) (w : FormulaFlaw) (scope : List Binder) (f : List ℕ) (ts : List Tree) → first_name g r w (term_parts scope (apply f (trees_of ts))) ≡ (if has_fault g r w (symbol f (length ts)) then Some f else first_name g r w (terms_parts scope (trees_of ts)))
first-apply g r w scope f ts = ap (λ (us : List Tree). if has_fault g r w (symbol f (length us)) then Some f else first_name g r w (terms_parts scope (trees_of ts))) (list_of-trees_of ts)

-- the terms from time k on
pub first-from : (g : Sig) (r : Bool) (w : FormulaFlaw) (scope : List Binder) (ts : List Tree) (k : ℕ) (t : Tree) → slice_get ts k ≡ Some t → first_name g r w (terms_parts scope (trees_of (drop k ts))) ≡ option_or (first_name g r w (term_parts scope t)) (first_name g r w (terms_parts scope (trees_of (drop (k + 1) ts))))
first-from g r w scope [] k t e = absurd (cc)
first-from g r w scope (u ∷ ts) zero t e =
    let same : u ≡ t = cc in
    first-append g r w (term_parts scope u) (terms_parts scope (trees_of ts)) ∙ ap (λ (x : Tree). option_or (first_name g r w (term_parts scope x)) (first_name g r w (terms_parts scope (trees_of ts)))) same
first-from g r w scope (u ∷ ts) (suc k) t e =
    let n : suc k + 1 ≡ suc (k + 1) = omega arith in rw n (first-from g r w scope ts k t e)

pub ruleset first_laws = (first-append, first-apply, or-none, item_le-trees_count)

pub ruleset form_laws = (first-append, or-lent)

pub ruleset list_laws = (item_le-trees_count)

pub instances-trees_of : (σ : Choice) (ts : List Tree) → instances σ (trees_of ts) ≡ trees_of (map (instance σ) ts)
instances-trees_of σ [] = refl
instances-trees_of σ (t ∷ ts) = ap (more (instance σ t)) (instances-trees_of σ ts)

pub ruleset sort_laws = (instances-trees_of, item_le-trees_count)
