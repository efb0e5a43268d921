-- Entries are messages.
use Rattle.std.proofs.Common.{◌≡◌, ℕ, List, [], ◌∷◌, length, Some, refl, ap, sym, subst, ◌∙◌}
use Rattle.std.specs.Prelude.{All, Contains}
use Rattle.std.proofs.lemmas.List.Elements.{All-nil, All-head, All-tail, All-push, All-contains, All-weaker}
use Rattle.sap_terms.specs.Ground.{AreGround}
use Rattle.sap_terms.specs.Laws.{NamesAreMessages}
use Rattle.sap_terms.specs.Message.{IsMessage, AreOver}
use Rattle.sap_terms.specs.Signature.{Sig, HoldsBuiltins, arity_of}
use Rattle.sap_terms.specs.Tree.{Tree, apply, trees_of, list_of, list_of-trees_of}
use Rattle.sap_terms.specs.declared.var.Sort.TheVariants.{Msg}
use Rattle.sap_rewrite.specs.Laws.{FormsAreMessages}
use Rattle.sap_deduce.specs.declared.origin.Origin.{Origin}
use Rattle.sap_deduce.specs.declared.origin.Origin.TheVariants.{Name, Public, Output, Apply}
use Rattle.sap_deduce.specs.Entries.{Entry, terms_of, IsApplication, Adds, AreEntered, none_yet, one_more}
use Rattle.sap_deduce.proofs.Derivations.{terms_of-push, terms_at-contained, terms_at-length}

all_ground : (g : Sig) (ts : List Tree) → All (IsMessage g Msg) ts → AreGround (trees_of ts)
all_ground g [] h = tt
all_ground g (t ∷ ts) h = ((All-head (IsMessage g Msg) t ts h).ground, all_ground g ts (All-tail (IsMessage g Msg) t ts h))

all_over : (g : Sig) (ts : List Tree) → All (IsMessage g Msg) ts → AreOver g (trees_of ts)
all_over g [] h = tt
all_over g (t ∷ ts) h = ((All-head (IsMessage g Msg) t ts h).over, all_over g ts (All-tail (IsMessage g Msg) t ts h))

-- a symbol on messages
application-message : FormsAreMessages → (g : Sig) (es : List Entry) (f ks : List ℕ) (t : Tree) → HoldsBuiltins g → All (IsMessage g Msg) (terms_of es) → IsApplication g es f ks t → IsMessage g Msg t
application-message forms g es f ks t builtins h a =
    let all : All (IsMessage g Msg) a.args = All-weaker (Contains (terms_of es)) (IsMessage g Msg) (λ u c. All-contains (IsMessage g Msg) (terms_of es) u h c) a.args (terms_at-contained (terms_of es) ks a.args a.at_numbers) in
    let arity : arity_of g f ≡ Some (length (list_of (trees_of a.args))) = a.arity ∙ ap Some (terms_at-length (terms_of es) ks a.args a.at_numbers ∙ ap length (sym (list_of-trees_of a.args))) in
    forms g (apply f (trees_of a.args)) t builtins (all_ground g a.args all) (arity, all_over g a.args all) a.form

adds-message : NamesAreMessages → FormsAreMessages → (g : Sig) (es : List Entry) (origin : Origin) (t : Tree) → HoldsBuiltins g → All (IsMessage g Msg) (terms_of es) → Adds g es origin t → IsMessage g Msg t
adds-message names forms g es (Name n) t builtins h a = let P : Tree → Type 0 = λ u. IsMessage g Msg u in subst P (sym a) (names.fresh_name g Msg n refl)
adds-message names forms g es Public t builtins h a = let P : Tree → Type 0 = λ u. IsMessage g Msg u in subst P (sym a.1) (names.public_name g Msg a.0 refl)
adds-message names forms g es Output t builtins h a = a
adds-message names forms g es (Apply f ks) t builtins h a = application-message forms g es f ks t builtins h a

-- each entry is a message
pub entered-messages : NamesAreMessages → FormsAreMessages → (g : Sig) (es : List Entry) → HoldsBuiltins g → AreEntered g es → All (IsMessage g Msg) (terms_of es)
entered-messages names forms g _ builtins none_yet = All-nil (IsMessage g Msg)
entered-messages names forms g _ builtins (one_more es t origin h a) =
    let before = entered-messages names forms g es builtins h in
    rw (terms_of-push es (record { term = t; origin = origin }))
    (All-push (IsMessage g Msg) (terms_of es) t before (adds-message names forms g es origin t builtins before a))
