-- The calls of a script are of those that are served, and are few.
use Rattle.std.proofs.Common.{◌≡◌, ℕ, zero, suc, true, false, ◌+◌, ◌-◌, ◌<◌, ◌≤◌, ◌^◌, List, [], ◌∷◌, length, drop, Option, Some, None, refl, arith, length-drop}
use Rattle.std.specs.Prelude.{All}
use Rattle.std.specs.List.{position, AllByRecursion}
use Rattle.std.specs.Str.Lines.{lines}
use Rattle.std.proofs.lemmas.Bool.{not-true}
use Rattle.std.proofs.lemmas.List.Elements.{All-cons}
use Rattle.xa_domain.specs.xa_types.declared.setup.Setup.{Setup}
use Rattle.xa_domain.specs.xa_types.declared.call.Op.{Op}
use Rattle.xa_domain.specs.xa_types.declared.call.Op.TheVariants.{Call, Acall, Get, GetAny, Cancel, Priority, Advertise, Unadvertise, Tick}
use Rattle.xa_domain.specs.xa_script.declared.script.Client.{Client}
use Rattle.xa_domain.specs.xa_client_worker.Going.{IsCall, AllCalls}
use Rattle.xa_domain.specs.Working.{IsBuiltClient}
use Rattle.xa_domain.specs.Serving.{IsBuilt}
use Rattle.xa_domain.specs.xa_script.Served.{is_served}
use Rattle.xa_domain.specs.xa_script.Script.{IsScriptOf}
use Rattle.xa_domain.specs.xa_script.Draft.{is_line_end}
use Rattle.xa_domain.proofs.xa_script.ScriptCut.{lines_at, lines_last}
use Rattle.xa_domain.proofs.xa_script.ScriptCalls.{IsServed, IsServedClient, script_calls}

lines_from : (octets : List ℕ) → 0 < length octets → ((rest : List ℕ) → length rest < length octets → length (lines rest) ≤ length rest)
    → (end : Option ℕ) → position is_line_end octets ≡ end → length (lines octets) ≤ length octets
lines_from octets some shorter None is = rw (lines_last octets some is) some
lines_from octets some shorter (Some end) is =
    let rest = drop (end + 1) octets in
    let left : length rest ≡ length octets - (end + 1) = length-drop (end + 1) octets in
    let fewer : length rest < length octets = omega (arith, left) in
    let few : length (lines rest) ≤ length rest = shorter rest fewer in
    rw (lines_at octets end is) (omega (arith, few, fewer))

-- there are no more lines than octets
lines_within : (n : ℕ) (octets : List ℕ) → length octets ≤ n → length (lines octets) ≤ length octets
lines_within n [] small = omega arith
lines_within zero (x ∷ rest) small = absurd (omega arith)
lines_within (suc n) (x ∷ rest) small = lines_from (x ∷ rest) (omega arith) (λ ys fewer. lines_within n ys (omega arith)) (position is_line_end (x ∷ rest)) refl

pub few_lines : (octets : List ℕ) → length (lines octets) ≤ length octets
few_lines octets = lines_within (length octets) octets (omega arith)

-- ---- the calls that are served

served_built : (op : Op) → is_served op ≡ true → IsCall true op
served_built (Call ask) served = tt
served_built (Acall ask) served = (refl, not-true ask.flags.no_reply served)
served_built (Get descriptor flags expect) served = tt
served_built (GetAny flags expect) served = tt
served_built (Cancel descriptor) served = tt
served_built (Priority absolute amount) served = tt
served_built (Advertise service routine) served = tt
served_built (Unadvertise service) served = tt
served_built (Tick n) served = tt
served_built op served = absurd cc

calls_built : (ops : List Op) → AllByRecursion IsServed ops → AllCalls ops
calls_built [] served = λ k d low. absurd (omega arith)
calls_built (op ∷ ops) served = All-cons (IsCall true) op ops (served_built op served.0) (calls_built ops served.1)

each_built : (most : ℕ) (clients : List Client) → most < 2 ^ 32 → AllByRecursion (IsServedClient most) clients → All IsBuiltClient clients
each_built most [] few served = λ k d low. absurd (omega arith)
each_built most (client ∷ clients) few served =
    let short = served.0.few in
    All-cons IsBuiltClient client clients (record { calls = calls_built client.ops served.0.calls; few = omega (arith, short, few) }) (each_built most clients few served.1)

pub script_built : (setup : Setup) (most : ℕ) (all : List (List ℕ)) (clients : List Client) → most ≤ 64 → length all < 2 ^ 32 → IsScriptOf setup most all clients → IsBuilt clients
script_built setup most all clients low few script =
    let fits = script.few in
    record { few = omega (arith, fits, low); calls = each_built (length all) clients few (script_calls setup most all clients script) }
