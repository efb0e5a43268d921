-- The equations that a signature switches on, and their instances.
use Rattle.std.specs.Prelude.{ℕ, List, IsTrue, codes}
use Rattle.sap_terms.specs.Signature.{Sig}
use Rattle.sap_terms.specs.declared.builtins.Builtins.{Builtins}
use Rattle.sap_terms.specs.Tree.{Tree, Trees, apply, none, more}

-- which equations hold beside those of pairs, by the builtins that bring them
abbrev pub Equations : Type 0
Equations = Builtins

-- a signature's equations are those of the builtins that were added to it
abbrev pub equations : Sig → Equations
equations g = g.builtins

-- the names of the symbols that equations speak of
abbrev pub pair_name : List ℕ
pair_name = codes "pair"

abbrev pub fst_name : List ℕ
fst_name = codes "fst"

abbrev pub snd_name : List ℕ
snd_name = codes "snd"

abbrev pub senc_name : List ℕ
senc_name = codes "senc"

abbrev pub sdec_name : List ℕ
sdec_name = codes "sdec"

abbrev pub aenc_name : List ℕ
aenc_name = codes "aenc"

abbrev pub adec_name : List ℕ
adec_name = codes "adec"

abbrev pub pk_name : List ℕ
pk_name = codes "pk"

abbrev pub sign_name : List ℕ
sign_name = codes "sign"

abbrev pub verify_name : List ℕ
verify_name = codes "verify"

abbrev pub reveal_sign_name : List ℕ
reveal_sign_name = codes "revealSign"

abbrev pub reveal_verify_name : List ℕ
reveal_verify_name = codes "revealVerify"

abbrev pub get_message_name : List ℕ
get_message_name = codes "getMessage"

abbrev pub true_name : List ℕ
true_name = codes "true"

-- a symbol on no, one, two or three trees
abbrev pub app0 : List ℕ → Tree
app0 f = apply f none

abbrev pub app1 : List ℕ → Tree → Tree
app1 f a = apply f (more a none)

abbrev pub app2 : List ℕ → Tree → Tree → Tree
app2 f a b = apply f (more a (more b none))

abbrev pub app3 : List ℕ → Tree → Tree → Tree → Tree
app3 f a b c = apply f (more a (more b (more c none)))

-- the two trees are the left side and the right side of one equation, with terms for its letters:
-- fst(<x,y>) = x, snd(<x,y>) = y, sdec(senc(m,k),k) = m, adec(aenc(m,pk(k)),k) = m, verify(sign(m,k),m,pk(k)) = true,
-- revealVerify(revealSign(m,k),m,pk(k)) = true, getMessage(revealSign(m,k)) = m
pub data IsInstance (e : Equations) : Tree → Tree → Type 0 where
  first : {x y : Tree} → IsInstance e (app1 fst_name (app2 pair_name x y)) x
  second : {x y : Tree} → IsInstance e (app1 snd_name (app2 pair_name x y)) y
  symmetric : {m k : Tree} → IsTrue e.symmetric
      → IsInstance e (app2 sdec_name (app2 senc_name m k) k) m
  asymmetric : {m k : Tree} → IsTrue e.asymmetric
      → IsInstance e (app2 adec_name (app2 aenc_name m (app1 pk_name k)) k) m
  signing : {m k : Tree} → IsTrue e.signing
      → IsInstance e (app3 verify_name (app2 sign_name m k) m (app1 pk_name k)) (app0 true_name)
  revealing : {m k : Tree} → IsTrue e.revealing
      → IsInstance e (app3 reveal_verify_name (app2 reveal_sign_name m k) m (app1 pk_name k))
      (app0 true_name)
  revealed : {m k : Tree} → IsTrue e.revealing
      → IsInstance e (app1 get_message_name (app2 reveal_sign_name m k)) m

-- the symbol heads the left side of an equation
pub record IsDestructor (e : Equations) (f : List ℕ) : Type 0 where
  pub args : Trees
  pub right : Tree
  pub is_left : IsInstance e (apply f args) right
