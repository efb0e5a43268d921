-- The normal forms of terms in scope over the signature are messages.
use Rattle.sap_translate.proofs.Premises.LowerLaws.{Laws, form_message}
use Rattle.std.proofs.Common.{◌≡◌, suc, length, Some, refl, sym, ap, ◌∙◌, subst}
use Rattle.sap_terms.specs.Choice.{instance, instances}
use Rattle.sap_terms.specs.Ground.{IsGround, AreGround}
use Rattle.sap_terms.specs.Message.{IsMessage, IsOver, AreOver}
use Rattle.sap_terms.specs.Normal.{IsNormalForm}
use Rattle.sap_terms.specs.Signature.{Sig, HoldsBuiltins}
use Rattle.sap_terms.specs.Equations.{equations}
use Rattle.sap_terms.specs.Tree.{Tree, variable, public, fresh, apply, Trees, none, more, list_of}
use Rattle.sap_terms.specs.declared.var.Sort.TheVariants.{Msg}
use Rattle.sap_translate.specs.relation.Envs.{Env, names, chosen, GoodEnv}
use Rattle.sap_translate.specs.Scoped.{Within, EachWithin}
use Rattle.sap_translate.proofs.Terms.Choices.{chosen_is}

mutual
  put_is_ground : (g : Sig) (env : Env) (t : Tree) → GoodEnv g env → Within (names env) t → IsGround (instance (chosen env) t)
  put_is_ground g env (variable x) good m = subst IsGround (sym (chosen_is env x m)) (good.ground x)
  put_is_ground g env (public n) good m = tt
  put_is_ground g env (fresh k) good m = tt
  put_is_ground g env (apply f ts) good m = put_each_ground g env ts good m

  put_each_ground : (g : Sig) (env : Env) (ts : Trees) → GoodEnv g env → EachWithin (names env) ts → AreGround (instances (chosen env) ts)
  put_each_ground g env none good m = tt
  put_each_ground g env (more t ts) good m = (put_is_ground g env t good m.0, put_each_ground g env ts good m.1)

put_length : (env : Env) (ts : Trees) → length (list_of (instances (chosen env) ts)) ≡ length (list_of ts)
put_length env none = refl
put_length env (more t ts) = ap suc (put_length env ts)

mutual
  put_is_over : (g : Sig) (env : Env) (t : Tree) → GoodEnv g env → Within (names env) t → IsOver g t → IsOver g (instance (chosen env) t)
  put_is_over g env (variable x) good m o = subst (IsOver g) (sym (chosen_is env x m)) (good.messages x m).over
  put_is_over g env (public n) good m o = tt
  put_is_over g env (fresh k) good m o = tt
  put_is_over g env (apply f ts) good m o = (o.0 ∙ ap Some (sym (put_length env ts)), put_each_over g env ts good m o.1)

  put_each_over : (g : Sig) (env : Env) (ts : Trees) → GoodEnv g env → EachWithin (names env) ts → AreOver g ts → AreOver g (instances (chosen env) ts)
  put_each_over g env none good m o = tt
  put_each_over g env (more t ts) good m o = (put_is_over g env t good m.0 o.0, put_each_over g env ts good m.1 o.1)

-- what a term in scope comes to is a message
pub put_message : (laws : Laws) → (g : Sig) (env : Env) (t n : Tree) → HoldsBuiltins g → GoodEnv g env → Within (names env) t → IsOver g t → IsNormalForm (equations g) (instance (chosen env) t) n → IsMessage g Msg n
put_message laws g env t n hold good m o form = (form_message laws) g (instance (chosen env) t) n hold (put_is_ground g env t good m) (put_is_over g env t good m o) form
