-- The form of a process with a known head.
use Rattle.std.proofs.Common.{◌≡◌, ℕ, List, refl, ap}
use Rattle.sap_lines.specs.Places.{form_proc}
use Rattle.sap_lines.specs.declared.form.Form.{Form}
use Rattle.sap_lines.specs.declared.form.Form.TheVariants as form
use Rattle.sap_process.specs.Action as action
use Rattle.sap_process.specs.Proc.{Proc, act, test, lookup}
use Rattle.sap_terms.specs.Tree.{Tree}
use Rattle.sap_terms.specs.View.{tree}
use Rattle.sap_terms.specs.declared.fact.Fact.{Fact}
use Rattle.sap_terms.specs.declared.term.Term.{Term}
use Rattle.sap_terms.specs.declared.var.Var.{Var}

-- a form of one term, or of two, that is this
pub record IsOne (f : Form) (K : Term → Form) (m : Tree) : Type 0 where
  pub term : Term
  pub form : f ≡ K term
  pub is : tree term ≡ m

pub record AreTwo (f : Form) (K : Term → Term → Form) (m n : Tree) : Type 0 where
  pub left : Term
  pub right : Term
  pub form : f ≡ K left right
  pub left_is : tree left ≡ m
  pub right_is : tree right ≡ n

pub new_form : (f : Form) (x : Var) (p a b : Proc) → form_proc f a b ≡ act (action.new x) p → f ≡ form.New x
new_form (form.New y) x p a b e = let same : y ≡ x = cc in ap form.New same
new_form _ x p a b e = absurd (cc)

pub in_form : (f : Form) (n : Tree) (p a b : Proc) → form_proc f a b ≡ act (action.input n) p → IsOne f form.In n
in_form (form.In t) n p a b e = record { term = t; form = refl; is = cc }
in_form _ n p a b e = absurd (cc)

pub out_form : (f : Form) (n : Tree) (p a b : Proc) → form_proc f a b ≡ act (action.out n) p → IsOne f form.Out n
out_form (form.Out t) n p a b e = record { term = t; form = refl; is = cc }
out_form _ n p a b e = absurd (cc)

pub event_form : (f : Form) (e : Fact) (p a b : Proc) → form_proc f a b ≡ act (action.event e) p → f ≡ form.Event e
event_form (form.Event h) e p a b k = let same : h ≡ e = cc in ap form.Event same
event_form _ e p a b k = absurd (cc)

pub recv_form : (f : Form) (m n : Tree) (p a b : Proc) → form_proc f a b ≡ act (action.receive m n) p → AreTwo f form.Recv m n
recv_form (form.Recv t u) m n p a b e = record { left = t; right = u; form = refl; left_is = cc; right_is = cc }
recv_form _ m n p a b e = absurd (cc)

pub send_form : (f : Form) (m n : Tree) (p a b : Proc) → form_proc f a b ≡ act (action.send m n) p → AreTwo f form.Send m n
send_form (form.Send t u) m n p a b e = record { left = t; right = u; form = refl; left_is = cc; right_is = cc }
send_form _ m n p a b e = absurd (cc)

pub if_form : (f : Form) (m n : Tree) (p q a b : Proc) → form_proc f a b ≡ test m n p q → AreTwo f form.If m n
if_form (form.If t u) m n p q a b e = record { left = t; right = u; form = refl; left_is = cc; right_is = cc }
if_form _ m n p q a b e = absurd (cc)

pub insert_form : (f : Form) (m n : Tree) (p a b : Proc) → form_proc f a b ≡ act (action.insert m n) p → AreTwo f form.Insert m n
insert_form (form.Insert t u) m n p a b e = record { left = t; right = u; form = refl; left_is = cc; right_is = cc }
insert_form _ m n p a b e = absurd (cc)

pub delete_form : (f : Form) (m : Tree) (p a b : Proc) → form_proc f a b ≡ act (action.delete m) p → IsOne f form.Delete m
delete_form (form.Delete t) m p a b e = record { term = t; form = refl; is = cc }
delete_form _ m p a b e = absurd (cc)

pub lookup_form : (f : Form) (m : Tree) (x : Var) (p q a b : Proc) → form_proc f a b ≡ lookup m x p q → IsOne f (λ t. form.Lookup t x) m
lookup_form (form.Lookup t y) m x p q a b e = let same : y ≡ x = cc in record { term = t; form = ap (form.Lookup t) same; is = cc }
lookup_form _ m x p q a b e = absurd (cc)

pub lock_form : (f : Form) (m : Tree) (i : ℕ) (p a b : Proc) → form_proc f a b ≡ act (action.lock m i) p → IsOne f (λ t. form.Lock t i) m
lock_form (form.Lock t j) m i p a b e = let same : j ≡ i = cc in record { term = t; form = ap (form.Lock t) same; is = cc }
lock_form _ m i p a b e = absurd (cc)

pub unlock_form : (f : Form) (m : Tree) (i : ℕ) (p a b : Proc) → form_proc f a b ≡ act (action.unlock m i) p → IsOne f (λ t. form.Unlock t i) m
unlock_form (form.Unlock t j) m i p a b e = let same : j ≡ i = cc in record { term = t; form = ap (form.Unlock t) same; is = cc }
unlock_form _ m i p a b e = absurd (cc)

pub rule_form : (f : Form) (l e r : List Fact) (p a b : Proc) → form_proc f a b ≡ act (action.embedded l e r) p → f ≡ form.Embedded l e r
rule_form (form.Embedded m f s) l e r p a b k =
    let one : m ≡ l = cc in
    let two : f ≡ e = cc in
    let three : s ≡ r = cc in
    λ i. form.Embedded (one i) (two i) (three i)
rule_form _ l e r p a b k = absurd (cc)
