-- The normal forms of ground terms over a signature are messages.
use Rattle.std.proofs.Common.{◌≡◌, ℕ, suc, List, Option, Some, None, unwrap_or, length, refl, sym, ap, subst, ◌∙◌}
use Rattle.std.specs.Prelude.{option_map}
use Rattle.sap_terms.specs.declared.var.Sort.TheVariants.{Msg}
use Rattle.sap_terms.specs.Ground.{IsGround, AreGround}
use Rattle.sap_terms.specs.Message.{IsMessage, IsOver, AreOver}
use Rattle.sap_terms.specs.Normal.{IsNormalForm}
use Rattle.sap_terms.specs.Signature.{Sig, HoldsBuiltins}
use Rattle.sap_terms.specs.declared.signature.Builtin.TheVariants.{Signing, RevealingSigning}
use Rattle.sap_terms.specs.declared.signature.Symbol.{Symbol}
use Rattle.sap_terms.specs.Equations.{equations, IsInstance, first, second, symmetric, asymmetric, signing, revealing, revealed}
use Rattle.sap_terms.specs.Tree.{Tree, variable, public, fresh, apply, Trees, none, more, list_of}
use Rattle.sap_rewrite.specs.code.Reduce.{contracted, reduced, nf, nfs}
use Rattle.sap_rewrite.proofs.NormalForms.{one_normal_form}
use Rattle.sap_rewrite.proofs.Sound.{contracted-sound}

-- ground and over the signature
abbrev IsClosed : Sig → Tree → Type 0
IsClosed g t = IsGround t × IsOver g t

-- so is the right side of an instance whose left side is
right-closed : (g : Sig) {t r : Tree} → HoldsBuiltins g → IsInstance (equations g) t r → IsClosed g t → IsClosed g r
right-closed g h first c = (c.0.0.0, c.1.1.0.1.0)
right-closed g h second c = (c.0.0.1.0, c.1.1.0.1.1.0)
right-closed g h (symmetric on) c = (c.0.0.0, c.1.1.0.1.0)
right-closed g h (asymmetric on) c = (c.0.0.0, c.1.1.0.1.0)
right-closed g h (signing on) c = (tt, (ap (option_map (λ (s : Symbol). s.arity)) (h Signing on).1.1.1.0, tt))
right-closed g h (revealing on) c = (tt, (ap (option_map (λ (s : Symbol). s.arity)) (h RevealingSigning on).1.1.1.1.0, tt))
right-closed g h (revealed on) c = (c.0.0.0, c.1.1.0.1.0)

reduced-closed : (g : Sig) (f : List ℕ) (ts : Trees) → HoldsBuiltins g → IsClosed g (apply f ts) → IsClosed g (reduced (equations g) f ts)
reduced-closed g f ts h c = at (contracted (equations g) f ts) refl where
  at : (o : Option Tree) → contracted (equations g) f ts ≡ o → IsClosed g (unwrap_or o (apply f ts))
  at None i = c
  at (Some r) i = right-closed g h (contracted-sound (equations g) f ts r i) c

nfs-length : (g : Sig) (ts : Trees) → length (list_of (nfs (equations g) ts)) ≡ length (list_of ts)
unfolding nf nfs
nfs-length g none = refl
nfs-length g (more t ts) = ap suc (nfs-length g ts)

mutual
  unfolding nf nfs

  nf-closed : (g : Sig) (t : Tree) → HoldsBuiltins g → IsGround t → IsOver g t → IsClosed g (nf (equations g) t)
  nf-closed g (variable v) h a o = absurd a
  nf-closed g (public n) h a o = (tt, tt)
  nf-closed g (fresh k) h a o = (tt, tt)
  nf-closed g (apply f ts) h a o =
      let q = nfs-closed g ts h a o.1 in
      reduced-closed g f (nfs (equations g) ts) h (q.0, (o.0 ∙ ap Some (sym (nfs-length g ts)), q.1))

  nfs-closed : (g : Sig) (ts : Trees) → HoldsBuiltins g → AreGround ts → AreOver g ts → AreGround (nfs (equations g) ts) × AreOver g (nfs (equations g) ts)
  nfs-closed g none h a o = (tt, tt)
  nfs-closed g (more t ts) h a o =
      let x = nf-closed g t h a.0 o.0 in
      let y = nfs-closed g ts h a.1 o.1 in
      ((x.0, y.0), (x.1, y.1))

pub form_message : (g : Sig) (t n : Tree) → HoldsBuiltins g → IsGround t → IsOver g t → IsNormalForm (equations g) t n → IsMessage g Msg n
form_message g t n h a o f =
    let q = subst (IsClosed g) (sym (one_normal_form (equations g) t n f)) (nf-closed g t h a o) in
    record { ground = q.0; over = q.1; normal = f.normal; sorted = refl }
