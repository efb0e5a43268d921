-- The names of rules tell their places.
use Rattle.std.proofs.Common.{◌≡◌, ℕ, ◌+◌, ◌-◌, arith, cond, ◌==◌, List, [], ◌∷◌, map, refl, sym, ap, ◌∙◌}
use Rattle.std.specs.Prelude.{Contains}
use Rattle.sap_terms.specs.declared.var.Var.{Var}
use Rattle.sap_place.specs.StateFacts.{digits}
use Rattle.sap_process.specs.Action as action
use Rattle.sap_process.specs.Proc as whole
use Rattle.sap_process.specs.Proc.{Proc, act}
use Rattle.sap_rule.specs.declared.rule.Rule.{Rule}
use Rattle.sap_templates.specs.Templates.{own_rules}
use Rattle.sap_translate.specs.Members.{Member}
use Rattle.sap_translate.proofs.Terms.Derive.{member}

-- what stands behind the first `_`
abbrev behind : List ℕ → List ℕ
behind [] = []
behind (c ∷ cs) = cond (c == 95) cs (behind cs)

-- the rule's name says the path
abbrev Says : List ℕ → Rule → Type 0
Says path r = behind r.name ≡ digits path

one_says : (path : List ℕ) {x a : Rule} → Says path a → Member x (a ∷ []) → Says path x
one_says path h Member.here = h
one_says path h (Member.later m) = elim m [ ]

two_say : (path : List ℕ) {x a b : Rule} → Says path a → Says path b → Member x (a ∷ b ∷ []) → Says path x
two_say path h k Member.here = h
two_say path h k (Member.later m) = one_says path k m

three_say : (path : List ℕ) {x a b c : Rule} → Says path a → Says path b → Says path c → Member x (a ∷ b ∷ c ∷ []) → Says path x
three_say path h k l Member.here = h
three_say path h k l (Member.later m) = two_say path k l m

says : (path : List ℕ) (v : List Var) (p : Proc) (r : Rule) → Member r (own_rules path v p) → Says path r
says path v whole.nil r m = one_says path refl m
says path v (whole.parallel p q) r m = one_says path refl m
says path v (whole.replicated p) r m = two_say path refl refl m
says path v (whole.test t u p q) r m = two_say path refl refl m
says path v (whole.lookup t x p q) r m = two_say path refl refl m
says path v (act (action.new x) p) r m = one_says path refl m
says path v (act (action.out t) p) r m = one_says path refl m
says path v (act (action.send t u) p) r m = three_say path refl refl refl m
says path v (act (action.input t) p) r m = one_says path refl m
says path v (act (action.receive t u) p) r m = two_say path refl refl m
says path v (act (action.event f) p) r m = one_says path refl m
says path v (act (action.insert t u) p) r m = one_says path refl m
says path v (act (action.delete t) p) r m = one_says path refl m
says path v (act (action.lock t l) p) r m = one_says path refl m
says path v (act (action.unlock t l) p) r m = one_says path refl m
says path v (act (action.embedded l a e) p) r m = one_says path refl m

-- digits tell the path
abbrev undo : List ℕ → List ℕ
undo cs = map (λ c. c - 48) cs

undo_digits : (path : List ℕ) → undo (digits path) ≡ path
undo_digits [] = refl
undo_digits (d ∷ path) = let one : 48 + d - 48 ≡ d = omega arith in λ i. one i ∷ undo_digits path i

pub named_by_places : (path other : List ℕ) (v w : List Var) (p q : Proc) (r s : Rule) → Contains (own_rules path v p) r → Contains (own_rules other w q) s → r.name ≡ s.name → path ≡ other
named_by_places path other v w p q r s in_one in_other same =
    let one = says path v p r (member r (own_rules path v p) in_one) in
    let two = says other w q s (member s (own_rules other w q) in_other) in
    sym (undo_digits path) ∙ ap undo (sym one ∙ ap behind same ∙ two) ∙ undo_digits other
