-- What the jobs of every script are within.
use Rattle.std.proofs.Common.{◌≡◌, ℕ, ◌+◌, ◌≤◌, max, ◌&&◌, nat_eq, Bool, true, false, IsTrue, if◌then◌else◌, List, [], ◌∷◌, ◌++◌, length, Option, Some, None, is_none, IfSome, option_map, option_and_then, Result, Ok, Err, All, refl, sym, ap, subst, ◌∙◌, arith, suc, codes, leb}
use Rattle.std.proofs.lemmas.Bool.{leb-true}
use Rattle.std.proofs.lemmas.List.Elements.{All-nil, All-cons, All-append}
use Rattle.serde_json.specs.Data.{Data, Items, no_items, item}
use Rattle.serde_json.specs.Data as json
use Rattle.serde_json.specs.Events.{items_len}
use Rattle.serde_json.specs.Find.{get, as_number, as_u64}
use Rattle.table_forms.specs.JsonObjects.{text_at, number_at, items_at, json_of, least_unknown}
use Rattle.avro_schema.specs.AvroTypes.{AvroType}
use Rattle.avro_schema.specs.SchemaTexts.{type_in}
use Rattle.table_forms.proofs.PieceLemmas.{and_parts}
use Rattle.table_props.specs.Flat.{fields_in, is_flat, is_rank_type, is_string_type}
use Rattle.table_props.specs.Keys.{is_bucket_count, is_table_name}
use Rattle.table_props.specs.PropsTexts.{Told, IsTold, HasField, only_if, place_of}
use Rattle.table_props.proofs.EntryLemmas.{bind_Some, some_is}
use Rattle.table_props.proofs.ToldLemmas.{has_field, ok_of_Some, only_if_Some, ordering_told}
use Rattle.script_jobs.specs.declared.kind.JobKind.{JobKind}
use Rattle.script_jobs.specs.declared.kind.JobKind.TheVariants as kind
use Rattle.table_jobs.specs.declared.del_key.DelKey.{DelKey}
use Rattle.script_jobs.specs.declared.script.LineCause.{LineCause}
use Rattle.script_jobs.specs.declared.script.LineCause.TheVariants.{Object, InitPlace}
use Rattle.script_jobs.specs.Causes.{◌>>=◌, wanted, if_known}
use Rattle.script_jobs.specs.DeletedKeys.{key_of, keys_of}
use Rattle.script_jobs.specs.Inits.{Places, json_schema, name_in, schema_in, string_field_at, ordering_of, ordering_in, buckets_in, places_in, init_members, told, init_of}
use Rattle.script_jobs.specs.Jobs.{Said, init, upsert, delete, snapshot, kind_in, lane_in, lane_of, upsert_of, delete_of, snapshot_of, said_of, members_of, job_of, few_keys, keys_in, at_of}
use Rattle.script_jobs.specs.Limits.{MakesTable, IsOther, IsInPhase, IsWithin, ScriptsAreWithin}
use Rattle.script_jobs.specs.Rows.{are_rows, is_item_count, is_object, rows_in}
use Rattle.script_jobs.specs.Scripts.{SaidJob, SaidScript, Begun, nothing, is_nothing, numbered, job_of_json, job_in, with_job, with_line, led, jobs_from, whole, whole_of}

-- ---- steps

bind_Ok : {A B : Type 0} (r : Result A LineCause) (f : A → Result B LineCause) (y : B) → (r >>= f) ≡ Ok y → (x : A) × (r ≡ Ok x) × (f x ≡ Ok y)
bind_Ok (Ok x) f y e = (x, refl, e)
bind_Ok (Err cause) f y e = absurd cc

ok_is : {A E : Type 0} (x y : A) → ◌≡◌ {A = Result A E} (Ok x) (Ok y) → x ≡ y
ok_is x y e = cc

wanted_Ok : {A : Type 0} (name : List ℕ) (o : Option A) (x : A) → wanted name o ≡ Ok x → o ≡ Some x
wanted_Ok name (Some y) x e = cc
wanted_Ok name None x e = absurd cc

known_Ok : {A : Type 0} (o : Option (List ℕ)) (x y : A) → if_known o x ≡ Ok y → x ≡ y
known_Ok None x y e = cc
known_Ok (Some name) x y e = absurd cc

-- ---- an `init`

string_field : (name : List ℕ) (schema : AvroType) (line : Data) (place : ℕ) → string_field_at name schema line ≡ Some place → HasField schema is_string_type place
string_field name schema line place is =
    let named = bind_Some (text_at name line) (λ field. place_of is_string_type field (fields_in schema)) place is in
    has_field schema is_string_type named.0 place named.2

ordering_field : (schema : AvroType) (d : Data) (place : Option ℕ) → ordering_of schema d ≡ Some place → IfSome place (HasField schema is_rank_type)
ordering_field schema json.null place is = ordering_told schema None place is
ordering_field schema (json.boolean b) place is = absurd cc
ordering_field schema (json.number n) place is = absurd cc
ordering_field schema (json.string field) place is = ordering_told schema (Some field) place is
ordering_field schema (json.array ds) place is = absurd cc
ordering_field schema (json.object ms) place is = absurd cc

record HasPlaces (schema : AvroType) (p : Places) : Type 0 where
  key : HasField schema is_string_type p.key
  partition : HasField schema is_string_type p.partition
  ordering : IfSome p.ordering (HasField schema is_rank_type)

has_places : (schema : AvroType) (line : Data) (p : Places) → places_in schema line ≡ Ok p → HasPlaces schema p
unfolding places_in
has_places schema line p is =
    let key = bind_Ok (wanted (codes "key") (string_field_at (codes "key") schema line)) _ p is in
    let partition = bind_Ok (wanted (codes "partition") (string_field_at (codes "partition") schema line)) _ p key.2 in
    let ordering = bind_Ok (wanted (codes "ordering") (ordering_in schema line)) _ p partition.2 in
    let of_value = bind_Some (get (codes "ordering") line) (ordering_of schema) ordering.0 (wanted_Ok _ (ordering_in schema line) ordering.0 ordering.1) in
    subst (HasPlaces schema) (ok_is (record { key = key.0; partition = partition.0; ordering = ordering.0 }) p ordering.2) (record {
      key = string_field (codes "key") schema line key.0 (wanted_Ok _ _ key.0 key.1);
      partition = string_field (codes "partition") schema line partition.0 (wanted_Ok _ _ partition.0 partition.1);
      ordering = ordering_field schema of_value.0 ordering.0 of_value.2;
    })

-- what passes a test
passed : {A : Type 0} (test : A → Bool) (o : Option A) (y : A) → option_and_then (λ x. only_if (test x) (Some x)) o ≡ Some y → IsTrue (test y) × (o ≡ Some y)
passed test (Some x) y is =
    let both = only_if_Some (test x) (Some x) y is in
    let same : x ≡ y = some_is x y both.1 in
    (subst (λ z. IsTrue (test z)) same both.0, both.1)
passed test None y is = absurd cc

init_told : (line : Data) (t : Told) → init_of line ≡ Ok t → IsTold t
unfolding init_of
init_told line t is =
    let name = bind_Ok (wanted (codes "name") (name_in line)) _ t is in
    let schema = bind_Ok (wanted (codes "schema") (schema_in line)) _ t name.2 in
    let places = bind_Ok (places_in schema.0 line) _ t schema.2 in
    let buckets = bind_Ok (wanted (codes "buckets") (buckets_in line)) _ t places.2 in
    let own = known_Ok (least_unknown init_members line) (told name.0 schema.0 places.0 buckets.0) t buckets.2 in
    let flat = passed is_flat (option_and_then json_schema (get (codes "schema") line)) schema.0 (wanted_Ok _ (schema_in line) schema.0 schema.1) in
    let json = bind_Some (get (codes "schema") line) json_schema schema.0 flat.1 in
    let has = has_places schema.0 line places.0 places.1 in
    subst IsTold own (record {
      name = (passed is_table_name (text_at (codes "name") line) name.0 (wanted_Ok _ (name_in line) name.0 name.1)).0;
      buckets = (passed is_bucket_count (number_at (codes "buckets") line) buckets.0 (wanted_Ok _ (buckets_in line) buckets.0 buckets.1)).0;
      schema = (json.0, ok_of_Some (type_in json.0) schema.0 json.2);
      flat = flat.0;
      key = has.key;
      partition = has.partition;
      ordering = has.ordering;
    })

-- ---- other jobs

upsert_other : (line : Data) (said : Said) → upsert_of line ≡ Ok said → IsOther said
unfolding upsert_of
upsert_other line said is =
    let rows = bind_Ok (wanted (codes "rows") (only_if (are_rows (rows_in line)) (Some (rows_in line)))) _ said is in
    let test = only_if_Some (are_rows (rows_in line)) (Some (rows_in line)) rows.0 (wanted_Ok _ _ rows.0 rows.1) in
    let same : rows_in line ≡ rows.0 = some_is _ rows.0 test.1 in
    subst IsOther (known_Ok _ (upsert rows.0) said rows.2) (subst (λ (ds : Items). IsTrue (are_rows ds)) same test.0)

keys_rest : (n : ℕ) (key : DelKey) (o : Option (List DelKey)) (keys : List DelKey) → ((more : List DelKey) → o ≡ Some more → length more ≡ n)
    → option_map (λ more. key ∷ more) o ≡ Some keys → length keys ≡ suc n
keys_rest n key None keys rest told = absurd cc
keys_rest n key (Some more) keys rest told = ap length (sym (some_is (key ∷ more) keys told)) ∙ ap suc (rest more refl)

keys_length : (items : Items) (keys : List DelKey) → keys_of items ≡ Some keys → length keys ≡ items_len items
unfolding keys_of
keys_length no_items keys is = ap length (sym (some_is [] keys is))
keys_length (item d ds) keys is =
    let first = bind_Some (key_of d) (λ key. option_map (λ more. key ∷ more) (keys_of ds)) keys is in
    keys_rest (items_len ds) first.0 (keys_of ds) keys (λ more e. keys_length ds more e) first.2

delete_other : (line : Data) (said : Said) → delete_of line ≡ Ok said → IsOther said
unfolding delete_of
delete_other line said is =
    let keys = bind_Ok (wanted (codes "keys") (keys_in line)) _ said is in
    let items = bind_Some (items_at (codes "keys") line) few_keys keys.0 (wanted_Ok _ (keys_in line) keys.0 keys.1) in
    let test = only_if_Some (is_item_count (items_len items.0)) (keys_of items.0) keys.0 items.2 in
    subst IsOther (known_Ok _ (delete keys.0) said keys.2)
    (subst (λ (n : ℕ). IsTrue (is_item_count n)) (sym (keys_length items.0 keys.0 test.1)) test.0)

snapshot_other : (line : Data) (said : Said) → snapshot_of line ≡ Ok said → IsOther said
unfolding snapshot_of
snapshot_other line said is =
    let at = bind_Ok (wanted (codes "at") (at_of (get (codes "at") line))) _ said is in
    subst IsOther (known_Ok _ (snapshot at.0) said at.2) tt

-- ---- a line

lane_bounds : (lanes : ℕ) (o : Option Data) (lane : ℕ) → lane_of lanes o ≡ Some lane → (1 ≤ lane) × (lane ≤ max 1 lanes)
lane_bounds lanes None lane is = let own : 1 ≡ lane = some_is 1 lane is in (omega (arith, own), omega (arith, own))
lane_bounds lanes (Some d) lane is =
    let test = (passed (λ (n : ℕ). leb 1 n && leb n lanes) (option_and_then as_u64 (as_number d)) lane is).0 in
    let both = and_parts (leb 1 lane) (leb lane lanes) test in
    let high = leb-true lane lanes both.1 in
    (leb-true 1 lane both.0, omega (arith, high))

lane_within : (k : JobKind) (lanes : ℕ) (line : Data) (lane : ℕ) → lane_in k lanes line ≡ Some lane → (1 ≤ lane) × (lane ≤ max 1 lanes)
lane_within kind.Init lanes line lane is =
    let one : 1 ≡ lane = some_is 1 lane (only_if_Some (is_none (get (codes "lane") line)) (Some 1) lane is).1 in
    (omega (arith, one), omega (arith, one))
lane_within kind.Upsert lanes line lane is = lane_bounds lanes (get (codes "lane") line) lane is
lane_within kind.Delete lanes line lane is = lane_bounds lanes (get (codes "lane") line) lane is
lane_within kind.Snapshot lanes line lane is = lane_bounds lanes (get (codes "lane") line) lane is

-- a table, or another job in a lane that is open
abbrev IsFine : ℕ → ℕ → Said → Type 0
IsFine lanes lane (init told) = IsTold told
IsFine lanes lane (upsert rows) = (1 ≤ lane) × (lane ≤ max 1 lanes) × IsOther (upsert rows)
IsFine lanes lane (delete keys) = (1 ≤ lane) × (lane ≤ max 1 lanes) × IsOther (delete keys)
IsFine lanes lane (snapshot at) = (1 ≤ lane) × (lane ≤ max 1 lanes) × IsOther (snapshot at)

fine_other : (lanes lane : ℕ) (said : Said) → (1 ≤ lane) × (lane ≤ max 1 lanes) → IsOther said → IsFine lanes lane said
fine_other lanes lane (init told) bounds other = absurd other
fine_other lanes lane (upsert rows) bounds other = (bounds.0, bounds.1, other)
fine_other lanes lane (delete keys) bounds other = (bounds.0, bounds.1, other)
fine_other lanes lane (snapshot at) bounds other = (bounds.0, bounds.1, other)

said_fine : (lanes lane : ℕ) (k : JobKind) (line : Data) (said : Said) → (1 ≤ lane) × (lane ≤ max 1 lanes) → said_of k line ≡ Ok said → IsFine lanes lane said
said_fine lanes lane kind.Init line said bounds is =
    let t = bind_Ok (init_of line) (λ told. Ok (init told)) said is in
    subst (IsFine lanes lane) (ok_is (init t.0) said t.2) (init_told line t.0 t.1)
said_fine lanes lane kind.Upsert line said bounds is = fine_other lanes lane said bounds (upsert_other line said is)
said_fine lanes lane kind.Delete line said bounds is = fine_other lanes lane said bounds (delete_other line said is)
said_fine lanes lane kind.Snapshot line said bounds is = fine_other lanes lane said bounds (snapshot_other line said is)

members_fine : (lanes : ℕ) (line : Data) (job : ℕ × Said) → members_of lanes line ≡ Ok job → IsFine lanes job.0 job.1
unfolding members_of
members_fine lanes line job is =
    let k = bind_Ok (wanted (codes "job") (kind_in line)) _ job is in
    let lane = bind_Ok (wanted (codes "lane") (lane_in k.0 lanes line)) _ job k.2 in
    let said = bind_Ok (said_of k.0 line) _ job lane.2 in
    let bounds = lane_within k.0 lanes line lane.0 (wanted_Ok _ _ lane.0 lane.1) in
    subst (λ (j : ℕ × Said). IsFine lanes j.0 j.1) (ok_is (lane.0, said.0) job said.2) (said_fine lanes lane.0 k.0 line said.0 bounds said.1)

object_fine : (lanes : ℕ) (line : Data) (b : Bool) (job : ℕ × Said) → (if b then members_of lanes line else Err Object) ≡ Ok job → IsFine lanes job.0 job.1
object_fine lanes line true job is = members_fine lanes line job is
object_fine lanes line false job is = absurd cc

json_fine : (lanes number : ℕ) (o : Option Data) (job : SaidJob) → job_of_json lanes number o ≡ Ok job → IsFine lanes job.lane job.what
json_fine lanes number None job is = absurd cc
json_fine lanes number (Some d) job is =
    let of = bind_Ok (job_of lanes d) (λ j. Ok (numbered number j)) job is in
    subst (λ (j : SaidJob). IsFine lanes j.lane j.what) (ok_is (numbered number of.0) job of.2) (object_fine lanes d (is_object d) of.0 of.1)

job_fine : (lanes number : ℕ) (line : List ℕ) (job : SaidJob) → job_in lanes number line ≡ Ok job → IsFine lanes job.lane job.what
unfolding job_in
job_fine lanes number line job is = json_fine lanes number (json_of line) job is

-- ---- a script

record IsFineSoFar (lanes : ℕ) (begun : Begun) : Type 0 where
  init : IfSome begun.init (λ job. MakesTable job.what)
  jobs : All (IsInPhase lanes) begun.jobs

one_more : (lanes : ℕ) (begun : Begun) (job : SaidJob) → IsFineSoFar lanes begun → (1 ≤ job.lane) × (job.lane ≤ max 1 lanes) × IsOther job.what
    → IsFineSoFar lanes (record { init = begun.init; jobs = begun.jobs ++ job ∷ [] })
one_more lanes begun job fine is = record {
  init = fine.init;
  jobs = All-append (IsInPhase lanes) begun.jobs (job ∷ []) fine.jobs (All-cons (IsInPhase lanes) job [] (record { lane_from = is.0; lane_to = is.1; other = is.2 }) (All-nil (IsInPhase lanes)));
}

table_first : (lanes : ℕ) (b : Bool) (job : SaidJob) (next : Begun) → MakesTable job.what
    → (if b then Ok (record { init = Some job; jobs = [] }) else Err InitPlace) ≡ Ok next → IsFineSoFar lanes next
table_first lanes true job next makes is = subst (IsFineSoFar lanes) (ok_is (record { init = Some job; jobs = [] }) next is) (record { init = makes; jobs = All-nil (IsInPhase lanes) })
table_first lanes false job next makes is = absurd cc

said_more : (lanes : ℕ) (begun : Begun) (line lane : ℕ) (said : Said) (next : Begun) → IsFineSoFar lanes begun → IsFine lanes lane said
    → with_job begun (record { line = line; lane = lane; what = said }) ≡ Ok next → IsFineSoFar lanes next
said_more lanes begun line lane (init told) next fine is e = table_first lanes (is_nothing begun) (record { line = line; lane = lane; what = init told }) next is e
said_more lanes begun line lane (upsert rows) next fine is e =
    subst (IsFineSoFar lanes) (ok_is _ next e) (one_more lanes begun (record { line = line; lane = lane; what = upsert rows }) fine is)
said_more lanes begun line lane (delete keys) next fine is e =
    subst (IsFineSoFar lanes) (ok_is _ next e) (one_more lanes begun (record { line = line; lane = lane; what = delete keys }) fine is)
said_more lanes begun line lane (snapshot at) next fine is e =
    subst (IsFineSoFar lanes) (ok_is _ next e) (one_more lanes begun (record { line = line; lane = lane; what = snapshot at }) fine is)

line_more : (lanes number : ℕ) (begun : Begun) (line : List ℕ) (next : Begun) → IsFineSoFar lanes begun → with_line lanes number begun line ≡ Ok next → IsFineSoFar lanes next
unfolding with_line
line_more lanes number begun line next fine is =
    let job = bind_Ok (job_in lanes number line) (with_job begun) next is in
    said_more lanes begun job.0.line job.0.lane job.0.what next fine (job_fine lanes number line job.0 job.1) job.2

-- a line, and those behind it
line_fine : (lanes number : ℕ) (begun : Begun) (line : List ℕ) (more : List (List ℕ)) (end : Begun) (b : Bool) → IsFineSoFar lanes begun
    → ((next : Begun) → IsFineSoFar lanes next → jobs_from lanes (number + 1) next more ≡ Ok end → IsFineSoFar lanes end)
    → (if b then jobs_from lanes (number + 1) begun more else led number (with_line lanes number begun line) (λ next. jobs_from lanes (number + 1) next more)) ≡ Ok end
    → IsFineSoFar lanes end
line_fine lanes number begun line more end true fine rest is = rest begun fine is
line_fine lanes number begun line more end false fine rest is = led_fine (with_line lanes number begun line) refl is
  where
    led_fine : (r : Result Begun LineCause) → with_line lanes number begun line ≡ r → led number r (λ next. jobs_from lanes (number + 1) next more) ≡ Ok end → IsFineSoFar lanes end
    led_fine (Ok next) e told = rest next (line_more lanes number begun line next fine e) told
    led_fine (Err cause) e told = absurd cc

jobs_fine : (lanes number : ℕ) (begun : Begun) (lines : List (List ℕ)) (end : Begun) → IsFineSoFar lanes begun → jobs_from lanes number begun lines ≡ Ok end → IsFineSoFar lanes end
unfolding jobs_from
jobs_fine lanes number begun [] end fine is = subst (IsFineSoFar lanes) (ok_is begun end is) fine
jobs_fine lanes number begun (line ∷ more) end fine is =
    line_fine lanes number begun line more end (nat_eq (length line) 0) fine (λ next f e. jobs_fine lanes (number + 1) next more end f e) is

whole_fine : (lanes : ℕ) (r : Result Begun (ℕ × LineCause)) (script : SaidScript) → ((begun : Begun) → r ≡ Ok begun → IsFineSoFar lanes begun)
    → whole_of r ≡ Ok script → IsWithin lanes script
whole_fine lanes (Ok begun) script fine is =
    let own = fine begun refl in
    subst (IsWithin lanes) (ok_is (whole begun) script is) (record {
      init = own.init;
      phases = All-cons (λ (jobs : List SaidJob). All (IsInPhase lanes) jobs) begun.jobs [] own.jobs (All-nil (λ (jobs : List SaidJob). All (IsInPhase lanes) jobs));
    })
whole_fine lanes (Err bad) script fine is = absurd cc

pub within : ScriptsAreWithin
within lanes lines script is =
    let none : IsFineSoFar lanes nothing = record { init = tt; jobs = All-nil (IsInPhase lanes) } in
    whole_fine lanes (jobs_from lanes 1 nothing lines) script (λ begun e. jobs_fine lanes 1 nothing lines begun none e) is
