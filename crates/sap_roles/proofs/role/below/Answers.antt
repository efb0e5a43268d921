use Rattle.sap_roles.specs.code.Steps.{is_left, is_right, is_copy, is_behind, is_then, is_else, is_found, is_missing}
use Rattle.sap_roles.proofs.role.below.Goals as goal

pub returns-in-Par-eq1 : goal.returns-in-Par-eq1
returns-in-Par-eq1 c = rw (c.in-Par-eq1.is-0, c.in-Par-eq1.is-1, c.deref.ensures) (is_left, λ names u. u.0)

pub returns-in-Par-eq2 : goal.returns-in-Par-eq2
returns-in-Par-eq2 c = rw (c.in-Par-eq2.is-0, c.in-Par-eq2.is-1, c.deref-in-Par-eq2.ensures) (is_right, λ names u. u.1)

pub returns-in-Rep-eq1 : goal.returns-in-Rep-eq1
returns-in-Rep-eq1 c = rw (c.in-Rep-eq1.is-0, c.in-Rep-eq1.is-1, c.deref-in-Rep-eq1.ensures) (is_copy, λ names u. u)

pub returns-in-Act-eq1 : goal.returns-in-Act-eq1
returns-in-Act-eq1 c = rw (c.in-Act-eq1.is-0, c.in-Act-eq1.is-1, c.deref-in-Act-eq1.ensures) (is_behind, λ names u. u)

pub returns-in-If-eq1 : goal.returns-in-If-eq1
returns-in-If-eq1 c = rw (c.in-If-eq1.is-0, c.in-If-eq1.is-1, c.deref-in-If-eq1.ensures) (is_then, λ names u. u.0)

pub returns-in-If-eq2 : goal.returns-in-If-eq2
returns-in-If-eq2 c = rw (c.in-If-eq2.is-0, c.in-If-eq2.is-1, c.deref-in-If-eq2.ensures) (is_else, λ names u. u.1)

pub returns-in-Lookup-eq1 : goal.returns-in-Lookup-eq1
returns-in-Lookup-eq1 c = rw (c.in-Lookup-eq1.is-0, c.in-Lookup-eq1.is-1, c.deref-in-Lookup-eq1.ensures) (is_found, λ names u. u.0)

pub returns-in-Lookup-eq2 : goal.returns-in-Lookup-eq2
returns-in-Lookup-eq2 c = rw (c.in-Lookup-eq2.is-0, c.in-Lookup-eq2.is-1, c.deref-in-Lookup-eq2.ensures) (is_missing, λ names u. u.1)
