-- The kinds of rules, by the words that their names begin with.
use Rattle.std.specs.Prelude.{ℕ, List, Option, Some, None, if◌then◌else◌, nat_eq, codes}
use Rattle.std.specs.List.{starts_with}
use Rattle.sap_process_lines.specs.declared.kind.Kind.{Kind}
use Rattle.sap_process_lines.specs.declared.kind.Kind.TheVariants.{Nil, Par, RepStart, RepCopy, New, Out, OutAdv, OutMsg, OutAck, In, InMsg, Event, Insert, Delete, Lock, Unlock, Then, Else, Found, Missing, Embedded}

-- of the rules whose thread goes on after one line
abbrev pub plain_kind : List ℕ → Option Kind
plain_kind name =
    if starts_with nat_eq name (codes "Insert_") then Some Insert else (
    if starts_with nat_eq name (codes "Delete_") then Some Delete else (
    if starts_with nat_eq name (codes "Lock_") then Some Lock else (
    if starts_with nat_eq name (codes "Unlock_") then Some Unlock else (
    if starts_with nat_eq name (codes "Then_") then Some Then else (
    if starts_with nat_eq name (codes "Else_") then Some Else else (
    if starts_with nat_eq name (codes "Found_") then Some Found else (
    if starts_with nat_eq name (codes "Missing_") then Some Missing else None)))))))

-- of those that have to do with a channel
abbrev pub channel_kind : List ℕ → Option Kind
channel_kind name =
    if starts_with nat_eq name (codes "Out_") then Some Out else (
    if starts_with nat_eq name (codes "OutAdv_") then Some OutAdv else (
    if starts_with nat_eq name (codes "OutMsg_") then Some OutMsg else (
    if starts_with nat_eq name (codes "OutAck_") then Some OutAck else (
    if starts_with nat_eq name (codes "In_") then Some In else (
    if starts_with nat_eq name (codes "InAdv_") then Some In else (
    if starts_with nat_eq name (codes "InMsg_") then Some InMsg else None))))))

-- of the others
abbrev pub other_kind : List ℕ → Option Kind
other_kind name =
    if starts_with nat_eq name (codes "Nil_") then Some Nil else (
    if starts_with nat_eq name (codes "Par_") then Some Par else (
    if starts_with nat_eq name (codes "RepStart_") then Some RepStart else (
    if starts_with nat_eq name (codes "RepCopy_") then Some RepCopy else (
    if starts_with nat_eq name (codes "New_") then Some New else (
    if starts_with nat_eq name (codes "Event_") then Some Event else (
    if starts_with nat_eq name (codes "Rule_") then Some Embedded else None))))))

-- the first of two that is there
abbrev pub or_else : Option Kind → Option Kind → Option Kind
or_else None o = o
or_else (Some kind) o = Some kind

-- the kind of the rule with this name, where it is of one
abbrev pub kind_named : List ℕ → Option Kind
kind_named name = or_else (plain_kind name) (or_else (channel_kind name) (other_kind name))
