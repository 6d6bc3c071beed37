-- Lines that are read one after another are a script of the clients that come of them.
use Rattle.std.proofs.Common.{◌≡◌, ℕ, suc, ◌+◌, ◌≤◌, ◌<◌, true, List, [], ◌∷◌, ◌++◌, length, map, Ok, Err, refl, ap, sym, ◌∙◌, subst, append_assoc, append-nil, length-append, arith}
use Rattle.std.specs.Prelude.{filter, flat_map}
use Rattle.std.specs.List.{AllZip}
use Rattle.std.proofs.lemmas.Grind.{flat_map-append}
use Rattle.std.proofs.lemmas.List.{map-append, length-map}
use Rattle.std.proofs.lemmas.List.Elements.{filter-append}
use Rattle.xa_types.specs.Configured.{are_distinct}
use Rattle.xa_types.specs.declared.setup.Setup.{Setup}
use Rattle.xa_types.specs.declared.call.Op.{Op}
use Rattle.xa_script.specs.declared.script.Client.{Client}
use Rattle.xa_script.specs.Script.{Saying, Nothing, Begins, Makes, SaysPrinted, is_said, said_of, client_names, IsScriptOf}
use Rattle.xa_script.specs.Draft.{Taken, client_with, with_call, and_then, with_line, read_all}
use Rattle.xa_script.proofs.Names.{distinct_push, distinct_apart}
use Rattle.xa_script.proofs.LineSays.{Extends, Comes, comes, goes}

abbrev said : List Client → List Saying
said clients = flat_map said_of clients

abbrev calls : List Op → List Saying
calls ops = map (λ op. Makes op) ops

-- ---- what is said tells the clients

-- the calls in front, and the clients behind them
abbrev heard : List Saying → List Op × List Client
heard [] = ([], [])
heard (Nothing ∷ sayings) = heard sayings
heard (Begins name ∷ sayings) = ([], client_with name (heard sayings).0 ∷ (heard sayings).1)
heard (Makes op ∷ sayings) = (op ∷ (heard sayings).0, (heard sayings).1)

heard_calls : (ops : List Op) (sayings : List Saying) → heard (calls ops ++ sayings) ≡ (ops ++ (heard sayings).0, (heard sayings).1)
heard_calls [] sayings = refl
heard_calls (op ∷ ops) sayings = ap (λ (h : List Op × List Client). (op ∷ h.0, h.1)) (heard_calls ops sayings)

heard_said : (clients : List Client) → heard (said clients) ≡ ([], clients)
heard_said [] = refl
heard_said (client ∷ clients) =
    let more = heard_said clients in
    let all = heard_calls client.ops (said clients) in
    ap (λ (h : List Op × List Client). ([], client_with client.name h.0 ∷ h.1))
    (all ∙ ap (λ (h : List Op × List Client). (client.ops ++ h.0, h.1)) more ∙ ap (λ ops. (ops, clients)) (append-nil client.ops))

said_same : (a b : List Client) → said a ≡ said b → a ≡ b
said_same a b h = ap (λ (c : List Op × List Client). c.1) (sym (heard_said a) ∙ ap heard h ∙ heard_said b)

-- the names that are said
abbrev names : List Saying → List (List ℕ)
names [] = []
names (Nothing ∷ sayings) = names sayings
names (Begins name ∷ sayings) = name ∷ names sayings
names (Makes op ∷ sayings) = names sayings

names_append : (a b : List Saying) → names (a ++ b) ≡ names a ++ names b
names_append [] b = refl
names_append (Nothing ∷ a) b = names_append a b
names_append (Begins name ∷ a) b = ap (λ more. name ∷ more) (names_append a b)
names_append (Makes op ∷ a) b = names_append a b

names_calls : (ops : List Op) (sayings : List Saying) → names (calls ops ++ sayings) ≡ names sayings
names_calls [] sayings = refl
names_calls (op ∷ ops) sayings = names_calls ops sayings

names_said : (clients : List Client) → names (said clients) ≡ client_names clients
names_said [] = refl
names_said (client ∷ clients) = ap (λ more. client.name ∷ more) (names_calls client.ops (said clients) ∙ names_said clients)

-- ---- one line more

said_call : (clients : List Client) (op : Op) → 0 < length clients → said (with_call clients op) ≡ said clients ++ Makes op ∷ []
said_call [] op some = absurd (omega (arith, some))
said_call (client ∷ []) op some =
    ap (λ sayings. Begins client.name ∷ sayings)
    (append-nil (calls (client.ops ++ op ∷ [])) ∙ map-append (λ op. Makes op) client.ops (op ∷ []) ∙ ap (λ front. front ++ Makes op ∷ []) (sym (append-nil (calls client.ops))))
said_call (client ∷ other ∷ clients) op some =
    ap (λ sayings. Begins client.name ∷ (calls client.ops ++ sayings)) (said_call (other ∷ clients) op (omega arith))
    ∙ ap (λ sayings. Begins client.name ∷ sayings) (sym (append_assoc (calls client.ops) (said (other ∷ clients)) (Makes op ∷ [])))

said_more : (most : ℕ) (clients more : List Client) (saying : Saying) → Extends most clients saying more → said more ≡ said clients ++ filter is_said (saying ∷ [])
said_more most clients more Nothing ext = ap said ext ∙ sym (append-nil (said clients))
said_more most clients more (Begins name) ext = ap said ext.0 ∙ flat_map-append said_of clients (client_with name [] ∷ [])
said_more most clients more (Makes op) ext = ap said ext.0 ∙ said_call clients op ext.1

-- so many clients at most, and no two of one name
pub record IsRoom (most : ℕ) (clients : List Client) : Type 0 where
  pub few : length clients ≤ most
  pub distinct : are_distinct (client_names clients) ≡ true

names_call : (clients : List Client) (op : Op) → 0 < length clients → client_names (with_call clients op) ≡ client_names clients
names_call [] op some = absurd (omega (arith, some))
names_call (client ∷ []) op some = refl
names_call (client ∷ other ∷ clients) op some = ap (λ more. client.name ∷ more) (names_call (other ∷ clients) op (omega arith))

length_call : (clients : List Client) (op : Op) → 0 < length clients → length (with_call clients op) ≡ length clients
length_call [] op some = absurd (omega (arith, some))
length_call (client ∷ []) op some = refl
length_call (client ∷ other ∷ clients) op some = let more = length_call (other ∷ clients) op (omega arith) in omega (arith, more)

room_more : (most : ℕ) (clients more : List Client) (saying : Saying) → Extends most clients saying more → IsRoom most clients → IsRoom most more
room_more most clients more Nothing ext room = subst (IsRoom most) (sym ext) room
room_more most clients more (Begins name) ext room =
    let low = ext.2 in
    let long = length-append clients (client_with name [] ∷ []) in
    subst (IsRoom most) (sym ext.0) (record {
      few = omega (arith, low, long);
      distinct = ap are_distinct (map-append (λ (client : Client). client.name) clients (client_with name [] ∷ [])) ∙ distinct_push (client_names clients) name room.distinct ext.1;
    })
room_more most clients more (Makes op) ext room =
    let few = room.few in
    let long = length_call clients op ext.1 in
    subst (IsRoom most) (sym ext.0) (record { few = omega (arith, few, long); distinct = ap are_distinct (names_call clients op ext.1) ∙ room.distinct })

-- ---- all lines

abbrev pub going : Setup → ℕ → List (List ℕ) → Taken → Taken
going setup most rest taken = and_then (λ more. read_all setup most more rest) taken

clients_are : (a b : List Client) → ◌≡◌ {A = Taken} (Ok a) (Ok b) → a ≡ b
clients_are a b h = cc h

record IsRead (setup : Setup) (most : ℕ) (start : List Client) (lines : List (List ℕ)) (clients : List Client) : Type 0 where
  pub sayings : List Saying
  pub each : AllZip (SaysPrinted setup) lines sayings
  pub told : said clients ≡ said start ++ filter is_said sayings
  pub room : IsRoom most clients

read_says : (setup : Setup) (most : ℕ) (start : List Client) (lines : List (List ℕ)) (clients : List Client) → IsRoom most start → read_all setup most start lines ≡ Ok clients
    → IsRead setup most start lines clients
unfolding read_all
read_says setup most start [] clients room h =
    let same : start ≡ clients = clients_are start clients h in
    record { sayings = []; each = tt; told = ap said (sym same) ∙ sym (append-nil (said start)); room = subst (IsRoom most) same room }
read_says setup most start (line ∷ lines) clients room h =
    elim (with_line setup most start line) as (λ (t : Taken). Comes setup most start line t → going setup most lines t ≡ Ok clients → IsRead setup most start (line ∷ lines) clients) [
      | Ok more ↦ λ on k.
          let rest = read_says setup most more lines clients (room_more most start more on.saying on.extends room) k in record {
            sayings = on.saying ∷ rest.sayings;
            each = (on.says, rest.each);
            told = rest.told ∙ ap (λ front. front ++ filter is_said rest.sayings) (said_more most start more on.saying on.extends)
                ∙ append_assoc (said start) (filter is_said (on.saying ∷ [])) (filter is_said rest.sayings)
                ∙ ap (λ back. said start ++ back) (sym (filter-append is_said (on.saying ∷ []) rest.sayings));
            room = rest.room;
          }
      | Err cause ↦ λ fault k. absurd cc
    ] (comes setup most start line) h

no_clients : (clients : List Client) (op : Op) (rest : List Saying) → said clients ≡ Makes op ∷ rest → ⊥
no_clients [] op rest h = cc
no_clients (client ∷ clients) op rest h = cc

-- the clients behind a line that says that, where they and all others are these
extended : (most : ℕ) (start clients : List Client) (saying : Saying) (rest : List Saying) → said clients ≡ said start ++ filter is_said (saying ∷ rest) → IsRoom most clients
    → (more : List Client) × Extends most start saying more
extended most start clients Nothing rest told room = (start, refl)
extended most start clients (Begins name) rest told room =
    let behind = names (filter is_said rest) in
    let all : client_names clients ≡ client_names start ++ name ∷ behind =
    sym (names_said clients) ∙ ap names told ∙ names_append (said start) (Begins name ∷ filter is_said rest) ∙ ap (λ front. front ++ name ∷ behind) (names_said start) in
    let few = room.few in
    let long : length clients ≡ length start + suc (length behind) =
    sym (length-map clients (λ (client : Client). client.name)) ∙ ap length all ∙ length-append (client_names start) (name ∷ behind)
    ∙ ap (λ n. n + suc (length behind)) (length-map start (λ (client : Client). client.name)) in
    (start ++ client_with name [] ∷ [], (refl, distinct_apart (client_names start) behind name (ap are_distinct (sym all) ∙ room.distinct), omega (arith, few, long)))
extended most [] clients (Makes op) rest told room = absurd (no_clients clients op (filter is_said rest) told)
extended most (client ∷ start) clients (Makes op) rest told room = (with_call (client ∷ start) op, (refl, omega arith))

read_again : (setup : Setup) (most : ℕ) (start : List Client) (lines : List (List ℕ)) (sayings : List Saying) (clients : List Client) → AllZip (SaysPrinted setup) lines sayings
    → said clients ≡ said start ++ filter is_said sayings → IsRoom most clients → read_all setup most start lines ≡ Ok clients
unfolding read_all
read_again setup most start [] [] clients each told room = ap (λ all. Ok all) (said_same start clients (sym (told ∙ append-nil (said start))))
read_again setup most start [] (saying ∷ sayings) clients each told room = absurd each
read_again setup most start (line ∷ lines) [] clients each told room = absurd each
read_again setup most start (line ∷ lines) (saying ∷ sayings) clients each told room =
    let next = extended most start clients saying sayings told room in
    let more = next.0 in
    let on = goes setup most start line saying more each.0.0 each.0.1 next.1 in
    ap (going setup most lines) on
    ∙ read_again setup most more lines sayings clients each.1
    (told ∙ ap (λ back. said start ++ back) (filter-append is_said (saying ∷ []) sayings)
    ∙ sym (append_assoc (said start) (filter is_said (saying ∷ [])) (filter is_said sayings))
    ∙ ap (λ front. front ++ filter is_said sayings) (sym (said_more most start more saying next.1))) room

-- what is read is a script
pub script_read : (setup : Setup) (most : ℕ) (lines : List (List ℕ)) (clients : List Client) → read_all setup most [] lines ≡ Ok clients → IsScriptOf setup most lines clients
script_read setup most lines clients h =
    let read = read_says setup most [] lines clients (record { few = omega arith; distinct = refl }) h in
    record { sayings = read.sayings; each = read.each; said = sym read.told; few = read.room.few; distinct = read.room.distinct }

-- a script is read
pub script_again : (setup : Setup) (most : ℕ) (lines : List (List ℕ)) (clients : List Client) → IsScriptOf setup most lines clients → read_all setup most [] lines ≡ Ok clients
script_again setup most lines clients script =
    read_again setup most [] lines script.sayings clients script.each (sym script.said) (record { few = script.few; distinct = script.distinct })
