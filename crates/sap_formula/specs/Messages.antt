-- Messages of any sort, as trees and in facts, and choices that give normal terms.
use Rattle.sap_terms.specs.Choice.{Choice}
use Rattle.sap_terms.specs.Equations.{Equations, equations}
use Rattle.sap_terms.specs.Ground.{AreGround, IsGround}
use Rattle.sap_terms.specs.Message.{AreOver, IsOver}
use Rattle.sap_terms.specs.Normal.{AreNormal, IsNormal}
use Rattle.sap_terms.specs.Signature.{Sig}
use Rattle.sap_terms.specs.Tree.{Tree, Trees, trees_of}
use Rattle.sap_terms.specs.declared.fact.Fact.{Fact}
use Rattle.sap_terms.specs.declared.var.Var.{Var}

-- a ground normal term over the signature
abbrev pub IsAnyMessage : Sig → Tree → Type 0
IsAnyMessage g t = IsGround t × IsOver g t × IsNormal (equations g) t

-- such terms
abbrev pub AreAnyMessages : Sig → Trees → Type 0
AreAnyMessages g ts = AreGround ts × AreOver g ts × AreNormal (equations g) ts

-- the arguments of a fact are
abbrev pub HasMessages : Sig → Fact → Type 0
HasMessages g f = AreAnyMessages g (trees_of f.args)

-- each variable stands for a normal term
abbrev pub IsNormalEnv : Equations → Choice → Type 0
IsNormalEnv e σ = (v : Var) → IsNormal e (σ v)
