-- What a whole document comes to, table by table.
use Rattle.std.proofs.Common.{◌≡◌, ℕ, zero, suc, ◌+◌, ◌<◌, ◌≤◌, nat_le, not, Bool, true, false, List, [], ◌∷◌, ◌++◌, length, get_or, drop, map, codes, Some, Result, Ok, Err, IfOk, IfErr, MatchResult, append_assoc, refl, sym, ap, ◌∙◌, subst, arith}
use Rattle.std.proofs.lemmas.List.{drop_more}
use Rattle.std.specs.Result.{result_and}
use Rattle.std.specs.List.{list_all, list_any, sum_by}
use Rattle.std.specs.Str.{bytes_eq}
use Rattle.toml.specs.Data.{Data, get}
use Rattle.xa_types.specs.Configured.{is_among, is_configured}
use Rattle.xa_types.specs.declared.setup.Setup.{Setup}
use Rattle.xa_types.specs.declared.setup.ShapeSetup.{ShapeSetup}
use Rattle.xa_types.specs.declared.setup.QueueSetup.{QueueSetup}
use Rattle.xa_types.specs.declared.setup.ServerSetup.{ServerSetup}
use Rattle.xa_types.specs.declared.setup.ServiceSetup.{ServiceSetup}
use Rattle.xa_config.specs.declared.refusal.ConfigRefused.{ConfigRefused}
use Rattle.xa_config.specs.declared.refusal.ConfigRefused.TheVariants.{Fault as Told, NoMemory}
use Rattle.xa_config.specs.Faults.{Fault, fault, at_key, expects, indexed}
use Rattle.xa_config.specs.Meaning.{list_at, names_of, text_at, shape_of, queue_of, service_of, server_of, domain_number, setup_of}
use Rattle.xa_config.specs.Tables.{unknown_tables, domain_faults, table_faults, shape_faults, queue_faults, server_faults, service_faults, rows_faults, unserved, faults_of}
use Rattle.xa_config.specs.Document.{Says, Reads, TellsFirst, NamesFirstFault}
use Rattle.xa_config.proofs.GoodSetup.{rows_same, queues_served, setup_is_good}
use Rattle.xa_config.proofs.Tells.{tells_front}
use Rattle.xa_config.proofs.Unknown.{any_map}
use Rattle.xa_config.proofs.Whole.{paired, both_kept}

-- the queues from one place on
unserved_next : (named : List (List ℕ)) (queues : List (List ℕ)) (place : ℕ) (queue : List ℕ) → place < length queues → queue ≡ get_or queues place queue
    → unserved named place (drop place queues) ≡ at_key (indexed (codes "queue") place) (expects (is_among named queue) 11) ++ unserved named (place + 1) (drop (place + 1) queues)
unfolding unserved
unserved_next named queues place queue h is =
    let one : suc place ≡ place + 1 = omega arith in
    ap (unserved named place) (drop_more queues place queue h)
    ∙ ap (λ q. at_key (indexed (codes "queue") place) (expects (is_among named q) 11) ++ unserved named (suc place) (drop (place + 1) queues)) (sym is)
    ∙ ap (λ n. at_key (indexed (codes "queue") place) (expects (is_among named queue) 11) ++ unserved named n (drop (place + 1) queues)) one

named_is : (servers : List ServerSetup) (queue : List ℕ) (b : Bool) → list_any (λ (s : ServerSetup). bytes_eq queue s.queue) servers ≡ b
    → is_among (map (λ (s : ServerSetup). s.queue) servers) queue ≡ b
named_is servers queue b h = any_map (λ (s : ServerSetup). s.queue) (bytes_eq queue) servers ∙ h

pub next_served : (servers : List ServerSetup) (queues : List (List ℕ)) (place : ℕ) (queue : List ℕ) (all : List Fault) → place < length queues → queue ≡ get_or queues place queue
    → all ≡ unserved (map (λ (s : ServerSetup). s.queue) servers) place (drop place queues) → list_any (λ (s : ServerSetup). bytes_eq queue s.queue) servers ≡ true
    → all ≡ unserved (map (λ (s : ServerSetup). s.queue) servers) (place + 1) (drop (place + 1) queues)
next_served servers queues place queue all h is same served =
    let named = map (λ (s : ServerSetup). s.queue) servers in
    same ∙ unserved_next named queues place queue h is
    ∙ ap (λ b. at_key (indexed (codes "queue") place) (expects b 11) ++ unserved named (place + 1) (drop (place + 1) queues)) (named_is servers queue true served)

pub next_unserved : (servers : List ServerSetup) (queues : List (List ℕ)) (place : ℕ) (queue : List ℕ) (all : List Fault) (refusal : ConfigRefused) → place < length queues
    → queue ≡ get_or queues place queue → all ≡ unserved (map (λ (s : ServerSetup). s.queue) servers) place (drop place queues)
    → list_any (λ (s : ServerSetup). bytes_eq queue s.queue) servers ≡ false → TellsFirst (fault (indexed (codes "queue") place) 11 ∷ []) refusal → TellsFirst all refusal
next_unserved servers queues place queue all refusal h is same not_served told =
    let named = map (λ (s : ServerSetup). s.queue) servers in
    let rest = unserved named (place + 1) (drop (place + 1) queues) in
    subst (λ faults. TellsFirst faults refusal)
    (sym (same ∙ unserved_next named queues place queue h is
    ∙ ap (λ b. at_key (indexed (codes "queue") place) (expects b 11) ++ rest) (named_is servers queue false not_served)))
    (tells_front (fault (indexed (codes "queue") place) 11 ∷ []) rest refusal told)

dropped : {A : Type 0} (xs : List A) (n : ℕ) → length xs ≤ n → drop n xs ≡ []
dropped [] zero h = refl
dropped [] (suc n) h = refl
dropped (x ∷ xs) zero h = absurd (omega (arith, h))
dropped (x ∷ xs) (suc n) h = dropped xs n (omega (arith, h))

pub all_served : (named queues : List (List ℕ)) (place : ℕ) (all : List Fault) → length queues ≤ place → all ≡ unserved named place (drop place queues) → all ≡ []
unfolding unserved
all_served named queues place all h same = same ∙ ap (unserved named place) (dropped queues place h)

rows_are : (shapes : List (List ℕ)) (ds : List Data) (services : List ServiceSetup) → services ≡ map (service_of shapes) ds
    → at_key (codes "service") (expects (nat_le (sum_by (λ (s : ServiceSetup). length s.queues) services) 256) 10) ≡ rows_faults ds
unfolding rows_faults
rows_are shapes ds services same =
    ap (λ xs. at_key (codes "service") (expects (nat_le (sum_by (λ (s : ServiceSetup). length s.queues) xs) 256) 10)) same
    ∙ ap (λ n. at_key (codes "service") (expects (nat_le n 256) 10)) (rows_same shapes ds)

-- the faults of the servers and the services, and of what is asked of the tables together
abbrev pub served_faults : List (List ℕ) → List (List ℕ) → Data → List Fault
served_faults queues shapes d =
    table_faults (codes "server") 1 64 (server_faults queues) d
    ++ table_faults (codes "service") 0 256 (service_faults queues shapes) d
    ++ rows_faults (list_at (codes "service") d)
    ++ unserved (map (text_at (codes "queue") []) (list_at (codes "server") d)) 0 queues

abbrev pub whole_faults : List ServerSetup → List ServiceSetup → List (List ℕ) → List Fault
whole_faults servers services queues =
    at_key (codes "service") (expects (nat_le (sum_by (λ (s : ServiceSetup). length s.queues) services) 256) 10)
    ++ unserved (map (λ (s : ServerSetup). s.queue) servers) 0 queues

pub many_told : (servers : List ServerSetup) (services : List ServiceSetup) (queues : List (List ℕ)) (refusal : ConfigRefused)
    → nat_le (sum_by (λ (s : ServiceSetup). length s.queues) services) 256 ≡ false → TellsFirst (fault (codes "service") 10 ∷ []) refusal
    → TellsFirst (whole_faults servers services queues) refusal
many_told servers services queues refusal many told =
    rw many (tells_front (fault (codes "service") 10 ∷ []) (unserved (map (λ (s : ServerSetup). s.queue) servers) 0 queues) refusal told)

pub few_told : {B : Type 0} (servers : List ServerSetup) (services : List ServiceSetup) (queues : List (List ℕ)) (tested : Result B ConfigRefused)
    → nat_le (sum_by (λ (s : ServiceSetup). length s.queues) services) 256 ≡ true
    → MatchResult tested (λ _. unserved (map (λ (s : ServerSetup). s.queue) servers) 0 queues ≡ []) (TellsFirst (unserved (map (λ (s : ServerSetup). s.queue) servers) 0 queues))
    → MatchResult tested (λ _. whole_faults servers services queues ≡ []) (TellsFirst (whole_faults servers services queues))
few_told servers services queues tested few served = rw few served

-- where servers and services have no fault of their own, the others are left
whole_left : (d : Data) (queues shapes : List (List ℕ)) (servers : List ServerSetup) (services : List ServiceSetup)
    → table_faults (codes "server") 1 64 (server_faults queues) d ≡ [] → table_faults (codes "service") 0 256 (service_faults queues shapes) d ≡ []
    → servers ≡ map server_of (list_at (codes "server") d) → services ≡ map (service_of shapes) (list_at (codes "service") d)
    → served_faults queues shapes d ≡ whole_faults servers services queues
whole_left d queues shapes servers services a b x y =
    let named = ap (λ xs. map (λ (s : ServerSetup). s.queue) xs) x ∙ queues_served (list_at (codes "server") d) in
    rw (a, b)
    (ap (λ rows. rows ++ unserved (map (text_at (codes "queue") []) (list_at (codes "server") d)) 0 queues) (sym (rows_are shapes (list_at (codes "service") d) services y))
    ∙ ap (λ names. at_key (codes "service") (expects (nat_le (sum_by (λ (s : ServiceSetup). length s.queues) services) 256) 10) ++ unserved names 0 queues) (sym named))

-- a value that is read where a test passes
reads_and : {A B : Type 0} (faults : List Fault) (value found : A) (tested : Result B ConfigRefused)
    → MatchResult tested (λ _. faults ≡ []) (TellsFirst faults) → found ≡ value → Reads faults value (result_and tested (Ok found))
reads_and faults value found (Ok _) none same = (none, same)
reads_and faults value found (Err refusal) told same = told

pub served_read : {B : Type 0} (d : Data) (queues shapes : List (List ℕ)) (servers : List ServerSetup) (services : List ServiceSetup) (tested : Result B ConfigRefused)
    → table_faults (codes "server") 1 64 (server_faults queues) d ≡ [] → table_faults (codes "service") 0 256 (service_faults queues shapes) d ≡ []
    → servers ≡ map server_of (list_at (codes "server") d) → services ≡ map (service_of shapes) (list_at (codes "service") d)
    → MatchResult tested (λ _. whole_faults servers services queues ≡ []) (TellsFirst (whole_faults servers services queues))
    → Reads (served_faults queues shapes d) (paired (map server_of (list_at (codes "server") d)) (map (service_of shapes) (list_at (codes "service") d)))
    (result_and tested (Ok (paired servers services)))
served_read d queues shapes servers services tested a b x y whole =
    subst (λ faults. Reads faults (paired (map server_of (list_at (codes "server") d)) (map (service_of shapes) (list_at (codes "service") d))) (result_and tested (Ok (paired servers services))))
    (sym (whole_left d queues shapes servers services a b x y)) (reads_and (whole_faults servers services queues) _ (paired servers services) tested whole (both_kept x y))

-- the faults of a document, with those of servers and services at once
parts_of : (d : Data) → faults_of d ≡ (
    unknown_tables d ++ domain_faults (get (codes "domain") d) ++ table_faults (codes "shape") 0 64 shape_faults d ++ table_faults (codes "queue") 1 64 queue_faults d
    ++ served_faults (names_of (list_at (codes "queue") d)) (names_of (list_at (codes "shape") d)) d)
unfolding faults_of
parts_of d = simp append_assoc

told : (d : Data) (refusal : ConfigRefused) → TellsFirst (
    unknown_tables d ++ domain_faults (get (codes "domain") d) ++ table_faults (codes "shape") 0 64 shape_faults d ++ table_faults (codes "queue") 1 64 queue_faults d
    ++ served_faults (names_of (list_at (codes "queue") d)) (names_of (list_at (codes "shape") d)) d) refusal → TellsFirst (faults_of d) refusal
told d refusal h = subst (λ faults. TellsFirst faults refusal) (sym (parts_of d)) h

pub tables_told : (d : Data) (refusal : ConfigRefused) → TellsFirst (unknown_tables d) refusal → TellsFirst (faults_of d) refusal
tables_told d refusal h = told d refusal (tells_front _ _ _ (tells_front _ _ _ (tells_front _ _ _ (tells_front _ _ _ h))))

pub domain_told : (d : Data) (refusal : ConfigRefused) → unknown_tables d ≡ [] → TellsFirst (domain_faults (get (codes "domain") d)) refusal → TellsFirst (faults_of d) refusal
domain_told d refusal a h = told d refusal (rw a (tells_front _ _ _ (tells_front _ _ _ (tells_front _ _ _ h))))

pub shapes_told : (d : Data) (refusal : ConfigRefused) → unknown_tables d ≡ [] → domain_faults (get (codes "domain") d) ≡ []
    → TellsFirst (table_faults (codes "shape") 0 64 shape_faults d) refusal → TellsFirst (faults_of d) refusal
shapes_told d refusal a b h = told d refusal (rw (a, b) (tells_front _ _ _ (tells_front _ _ _ h)))

pub queues_told : (d : Data) (refusal : ConfigRefused) → unknown_tables d ≡ [] → domain_faults (get (codes "domain") d) ≡ []
    → table_faults (codes "shape") 0 64 shape_faults d ≡ [] → TellsFirst (table_faults (codes "queue") 1 64 queue_faults d) refusal → TellsFirst (faults_of d) refusal
queues_told d refusal a b c h = told d refusal (rw (a, b, c) (tells_front _ _ _ h))

-- where the tables before them have no fault, those of servers and services are left
pub served_left : (d : Data) (queues shapes : List (List ℕ)) → unknown_tables d ≡ [] → domain_faults (get (codes "domain") d) ≡ []
    → table_faults (codes "shape") 0 64 shape_faults d ≡ [] → table_faults (codes "queue") 1 64 queue_faults d ≡ []
    → queues ≡ names_of (list_at (codes "queue") d) → shapes ≡ names_of (list_at (codes "shape") d) → faults_of d ≡ served_faults queues shapes d
served_left d queues shapes a b c e q s =
    parts_of d ∙ rw (a, b, c, e) (ap (λ names. served_faults names (names_of (list_at (codes "shape") d)) d) (sym q) ∙ ap (λ names. served_faults queues names d) (sym s))

pub served_told : (d : Data) (queues shapes : List (List ℕ)) (refusal : ConfigRefused) → unknown_tables d ≡ [] → domain_faults (get (codes "domain") d) ≡ []
    → table_faults (codes "shape") 0 64 shape_faults d ≡ [] → table_faults (codes "queue") 1 64 queue_faults d ≡ []
    → queues ≡ names_of (list_at (codes "queue") d) → shapes ≡ names_of (list_at (codes "shape") d)
    → TellsFirst (served_faults queues shapes d) refusal → TellsFirst (faults_of d) refusal
served_told d queues shapes refusal a b c e q s h = subst (λ faults. TellsFirst faults refusal) (sym (served_left d queues shapes a b c e q s)) h

pub refuses : (octets : List ℕ) (d : Data) (value : Setup) (result : Result Setup ConfigRefused) → Says octets (Some d) → Reads (faults_of d) value result
    → IfErr result (NamesFirstFault octets)
refuses octets d value (Ok setup) said read = tt
refuses octets d value (Err (Told number key)) said read = record { document = Some d; is_said = said; is_first = read }
refuses octets d value (Err NoMemory) said read = tt

pub configures : (d : Data) (result : Result Setup ConfigRefused) → Reads (faults_of d) (setup_of d) result → IfOk result (λ setup. is_configured setup ≡ true)
configures d (Ok setup) read = ap is_configured read.1 ∙ setup_is_good d read.0
configures d (Err refusal) read = tt

abbrev pub setup_with : ℕ → ℕ → List ShapeSetup → List QueueSetup → List ServerSetup → List ServiceSetup → Setup
setup_with block_time blocks shapes queues servers services =
    record { block_time = block_time; blocks = blocks; shapes = shapes; queues = queues; servers = servers; services = services }

pub setup_read : (d : Data) (block_time blocks : ℕ) (shapes : List ShapeSetup) (queues : List QueueSetup) (servers : List ServerSetup) (services : List ServiceSetup) (names : List (List ℕ))
    → block_time ≡ domain_number (codes "blocktime") 60 (get (codes "domain") d) → blocks ≡ domain_number (codes "blocks") 256 (get (codes "domain") d)
    → shapes ≡ map shape_of (list_at (codes "shape") d) → queues ≡ map queue_of (list_at (codes "queue") d)
    → servers ≡ map server_of (list_at (codes "server") d) → services ≡ map (service_of names) (list_at (codes "service") d)
    → names ≡ names_of (list_at (codes "shape") d) → setup_with block_time blocks shapes queues servers services ≡ setup_of d
unfolding setup_of
setup_read d block_time blocks shapes queues servers services names a b c e f g same =
    let time = domain_number (codes "blocktime") 60 (get (codes "domain") d) in
    let many = domain_number (codes "blocks") 256 (get (codes "domain") d) in
    let all_shapes = map shape_of (list_at (codes "shape") d) in
    let all_queues = map queue_of (list_at (codes "queue") d) in
    let all_servers = map server_of (list_at (codes "server") d) in
    ap (λ x. setup_with x blocks shapes queues servers services) a
    ∙ ap (λ x. setup_with time x shapes queues servers services) b
    ∙ ap (λ x. setup_with time many x queues servers services) c
    ∙ ap (λ x. setup_with time many all_shapes x servers services) e
    ∙ ap (λ x. setup_with time many all_shapes all_queues x services) f
    ∙ ap (λ x. setup_with time many all_shapes all_queues all_servers x) (g ∙ ap (λ n. map (service_of n) (list_at (codes "service") d)) same)
