-- The names of files, taken apart.
use Rattle.std.proofs.Common.{◌≡◌, ℕ, ◌+◌, ◌/◌, ◌%◌, ◌^◌, ◌<◌, true, false, nat_eq, List, [], ◌∷◌, ◌++◌, get_or, take, drop, Option, Some, None, refl, sym, ap, subst, ◌∙◌, arith}
use Rattle.std.proofs.Math.Seq.{take-append_seam, drop-append-add}
use Rattle.std.proofs.lemmas.List.{get_or_append_left}
use Rattle.std.specs.Prelude.{codes}
use Rattle.std.specs.Fmt.{decimal}
use Rattle.std.specs.Str.{bytes_eq}
use Rattle.hudi_base.specs.InstantTime.{IsTime, time_of, time_text}
use Rattle.hudi_base.specs.declared.file_group.GroupRef.{GroupRef}
use Rattle.hudi_base.proofs.Times.{length-time_text, All-time_text}
use Rattle.table_forms.specs.Decimals.{decimal_of}
use Rattle.table_forms.specs.NameForms.{IsPartitionPath}
use Rattle.table_forms.specs.Pieces.{split_once}
use Rattle.table_forms.proofs.DecimalLemmas.{decimal_of-IsDecimal}
use Rattle.table_forms.proofs.NameFormLemmas.{partition_has_no_slash}
use Rattle.table_forms.proofs.PieceLemmas.{lacks, lacks-append, lacks-cons, split_once-here}
use Rattle.file_names.specs.Candidate.{group_of, token_of, state_of, ending_of, timeline_file, base_file, log_file, three_pieces, data_file, candidate, IsFound}
use Rattle.file_names.specs.FileId.{file_id}
use Rattle.file_names.specs.FileName.{instant_ending, token_text, name_of, IsGroup, IsToken, IsBase, IsLog, IsNamed, IsRead}
use Rattle.file_names.specs.declared.file_name.Action.{Action}
use Rattle.file_names.specs.declared.file_name.Action.TheVariants.{Delta, Compaction, Replace, Clean, Rollback}
use Rattle.file_names.specs.declared.file_name.State.{State}
use Rattle.file_names.specs.declared.file_name.State.TheVariants.{Requested, Inflight, Completed}
use Rattle.file_names.specs.declared.file_name.Token.{Token}
use Rattle.file_names.specs.declared.file_name.FileName.{FileName}
use Rattle.file_names.specs.declared.file_name.FileName.TheVariants.{Instant, Base, Log, Properties, Other}
use Rattle.file_names.proofs.IdTexts.{lacks-decimal, lacks_underscore-decimal, lacks-time_text, lacks-file_id, hex_digit_seen, group_of-file_id, bytes_differ}
use Rattle.hudi_base.proofs.TimeTexts.{time_of-time_text}

abbrev first_piece : Option (List ℕ × List ℕ) → List ℕ
first_piece None = []
first_piece (Some pieces) = pieces.0

some_same : {A : Type 0} {a b : A} → Some a ≡ Some b → a ≡ b
some_same is = cc

-- ---- pieces of data files

decimal_of-decimal : (n : ℕ) → n < 2 ^ 64 → decimal_of (decimal n) ≡ Some n
decimal_of-decimal n fits = decimal_of-IsDecimal n (decimal n) (record { fits = fits; written = refl })

token_of-token_text : (token : Token) → IsToken token → token_of (token_text token) ≡ Some token
unfolding token_of
token_of-token_text token h =
    rw (
      split_once-here 45 (decimal token.session) (decimal token.attempt) (lacks-decimal 45 token.session h.session (omega arith)),
      decimal_of-decimal token.session h.session,
      decimal_of-decimal token.attempt h.attempt,
    ) refl

lacks-token_text : (token : Token) → IsToken token → lacks 95 (token_text token) ≡ true
lacks-token_text token h =
    let attempt : lacks 95 (45 ∷ decimal token.attempt) ≡ true = lacks-cons 95 45 (decimal token.attempt) (omega arith) (lacks_underscore-decimal token.attempt h.attempt) in
    let numbers : lacks 95 (decimal token.session ++ (45 ∷ decimal token.attempt)) ≡ true =
    lacks-append 95 (decimal token.session) (45 ∷ decimal token.attempt) (lacks_underscore-decimal token.session h.session) attempt in
    lacks-append 95 (codes "0-") (decimal token.session ++ (45 ∷ decimal token.attempt)) refl numbers

time_at_front : (t : ℕ) (rest : List ℕ) → IsTime t → time_of (take 17 (time_text t ++ rest)) ≡ Some t
time_at_front t rest is_time =
    let front : take 17 (time_text t ++ rest) ≡ time_text t =
    subst (λ (n : ℕ). take n (time_text t ++ rest) ≡ time_text t) (length-time_text t) (take-append_seam (time_text t) rest) in
    ap time_of front ∙ time_of-time_text t is_time

behind_time : (t n : ℕ) (rest : List ℕ) → drop (17 + n) (time_text t ++ rest) ≡ drop n rest
behind_time t n rest = subst (λ (k : ℕ). drop (k + n) (time_text t ++ rest) ≡ drop n rest) (length-time_text t) (drop-append-add (time_text t) rest n)

three_pieces-here : (a b c : List ℕ) → lacks 95 a ≡ true → lacks 95 b ≡ true → three_pieces (a ++ (95 ∷ (b ++ (95 ∷ c)))) ≡ Some (a, b, c)
unfolding three_pieces
three_pieces-here a b c none_first none_second =
    rw (split_once-here 95 a (b ++ (95 ∷ c)) none_first, split_once-here 95 b c none_second) refl

base_file-text : (table : List ℕ) (group : GroupRef) (token : Token) (t : ℕ) → IsBase group token t
    → base_file group.partition (file_id table group) (token_text token) (time_text t ++ codes ".parquet") ≡ Some (Base group token t)
unfolding base_file
base_file-text table group token t h =
    rw (group_of-file_id table group h.of_group, token_of-token_text token h.made_by, time_at_front t (codes ".parquet") h.at) refl

log_file-text : (table : List ℕ) (group : GroupRef) (slice version : ℕ) (token : Token) → IsLog group slice version token
    → log_file group.partition (file_id table group) (time_text slice ++ (codes ".log." ++ decimal version)) (token_text token) ≡ Some (Log group slice version token)
unfolding log_file
log_file-text table group slice version token h =
    rw (
      group_of-file_id table group h.of_group,
      time_at_front slice (codes ".log." ++ decimal version) h.within,
      behind_time slice 5 (codes ".log." ++ decimal version),
      decimal_of-decimal version h.fits,
      token_of-token_text token h.made_by,
    ) refl

first_byte : (table : List ℕ) (group : GroupRef) (rest : List ℕ) → nat_eq (get_or (file_id table group ++ rest) 0 0) 46 ≡ false
unfolding file_id
first_byte table group rest = hex_digit_seen (group.lo / 4096 % 16)

data_file-base : (table : List ℕ) (group : GroupRef) (token : Token) (t : ℕ) → IsBase group token t
    → data_file group.partition (file_id table group ++ (95 ∷ (token_text token ++ (95 ∷ (time_text t ++ codes ".parquet"))))) ≡ Some (Base group token t)
unfolding data_file
data_file-base table group token t h =
    rw (
      first_byte table group _,
      three_pieces-here (file_id table group) (token_text token) (time_text t ++ codes ".parquet")
          (lacks-file_id table group h.of_group.born) (lacks-token_text token h.made_by),
    ) (base_file-text table group token t h)

data_file-log : (table : List ℕ) (group : GroupRef) (slice version : ℕ) (token : Token) → IsLog group slice version token
    → data_file group.partition (46 ∷ (file_id table group ++ (95 ∷ ((time_text slice ++ (codes ".log." ++ decimal version)) ++ (95 ∷ token_text token))))) ≡ Some (Log group slice version token)
unfolding data_file
data_file-log table group slice version token h =
    let none : lacks 95 (time_text slice ++ (codes ".log." ++ decimal version)) ≡ true =
    lacks-append 95 (time_text slice) (codes ".log." ++ decimal version) (lacks-time_text slice h.within) (lacks-append 95 (codes ".log.") (decimal version) refl (lacks_underscore-decimal version h.fits)) in
    rw (three_pieces-here (file_id table group) (time_text slice ++ (codes ".log." ++ decimal version)) (token_text token)
    (lacks-file_id table group h.of_group.born) none) (log_file-text table group slice version token h)

-- ---- files of the timeline

ending_of-instant_ending : (action : Action) (state : State) → ending_of (instant_ending action state) ≡ Some (action, state)
unfolding ending_of state_of
ending_of-instant_ending Delta Requested = refl
ending_of-instant_ending Delta Inflight = refl
ending_of-instant_ending Delta Completed = refl
ending_of-instant_ending Compaction Requested = refl
ending_of-instant_ending Compaction Inflight = refl
ending_of-instant_ending Compaction Completed = refl
ending_of-instant_ending Replace Requested = refl
ending_of-instant_ending Replace Inflight = refl
ending_of-instant_ending Replace Completed = refl
ending_of-instant_ending Clean Requested = refl
ending_of-instant_ending Clean Inflight = refl
ending_of-instant_ending Clean Completed = refl
ending_of-instant_ending Rollback Requested = refl
ending_of-instant_ending Rollback Inflight = refl
ending_of-instant_ending Rollback Completed = refl

no_properties : (t : ℕ) (rest : List ℕ) → IsTime t → bytes_eq (time_text t ++ rest) (codes "hoodie.properties") ≡ false
no_properties t rest is_time = bytes_differ (time_text t ++ rest) (codes "hoodie.properties") (λ same.
    let long = length-time_text t in
    let first : get_or (time_text t ++ rest) 0 0 ≡ 104 = ap (λ (bs : List ℕ). get_or bs 0 0) same in
    let here = get_or_append_left (time_text t) rest 0 0 (omega arith) in
    let digit = All-time_text t is_time 0 0 (omega arith) in
    omega (arith, first, here, digit.1))

timeline_file-instant : (t : ℕ) (action : Action) (state : State) → IsTime t
    → timeline_file (time_text t ++ instant_ending action state) ≡ Some (Instant t action state)
unfolding timeline_file
timeline_file-instant t action state is_time =
    rw (
      no_properties t (instant_ending action state) is_time,
      time_at_front t (instant_ending action state) is_time,
      behind_time t 0 (instant_ending action state),
      ending_of-instant_ending action state,
    ) refl

timeline_file-properties : timeline_file (codes "hoodie.properties") ≡ Some Properties
unfolding timeline_file
timeline_file-properties = refl

-- ---- whole names

not_in_timeline : (partition rest : List ℕ) → IsPartitionPath partition → bytes_eq (take 8 (partition ++ rest)) (codes ".hoodie/") ≡ false
not_in_timeline [] rest path = absurd (omega (arith, path.filled))
not_in_timeline (x ∷ xs) rest path = bytes_differ (take 8 ((x ∷ xs) ++ rest)) (codes ".hoodie/") (λ same. path.seen (ap (λ (bs : List ℕ). get_or bs 0 0) same))

-- what the name of a file in a partition is split into
pub split_once-partition : (partition rest : List ℕ) → IsPartitionPath partition → split_once 47 (partition ++ 47 ∷ rest) ≡ Some (partition, rest)
split_once-partition partition rest path = split_once-here 47 partition rest (partition_has_no_slash partition path)

-- the name of a file is taken apart into that file
pub candidate-name_of : (table : List ℕ) (file : FileName) → IsNamed file → candidate (name_of table file) ≡ Some file
unfolding candidate name_of
candidate-name_of table (Instant t action state) h = timeline_file-instant t action state h
candidate-name_of table (Base group token t) h =
    rw (not_in_timeline group.partition _ h.of_group.partition, split_once-partition group.partition _ h.of_group.partition) (data_file-base table group token t h)
candidate-name_of table (Log group slice version token) h =
    rw (not_in_timeline group.partition _ h.of_group.partition, split_once-partition group.partition _ h.of_group.partition) (data_file-log table group slice version token h)
candidate-name_of table Properties h = timeline_file-properties
candidate-name_of table Other h = absurd h

-- ---- reading

pub found_by_candidate : (name : List ℕ) → IsFound name (candidate name)
found_by_candidate name table file h is = ap candidate is ∙ candidate-name_of table file h

-- a name that isn't in the timeline is split behind a partition
candidate_partition : (table : List ℕ) (file : FileName) (partition rest : List ℕ) → IsNamed file → bytes_eq (take 8 (name_of table file)) (codes ".hoodie/") ≡ false
    → split_once 47 (name_of table file) ≡ Some (partition, rest) → IsPartitionPath partition
unfolding name_of
candidate_partition table (Instant t action state) partition rest h other is = absurd cc
candidate_partition table (Base group token t) partition rest h other is =
    let same : group.partition ≡ partition = ap first_piece (sym (split_once-partition group.partition _ h.of_group.partition) ∙ is) in
    subst IsPartitionPath same h.of_group.partition
candidate_partition table (Log group slice version token) partition rest h other is =
    let same : group.partition ≡ partition = ap first_piece (sym (split_once-partition group.partition _ h.of_group.partition) ∙ is) in
    subst IsPartitionPath same h.of_group.partition
candidate_partition table Properties partition rest h other is = absurd cc
candidate_partition table Other partition rest h other is = absurd h

pub none_without_partition : (name partition rest : List ℕ) → bytes_eq (take 8 name) (codes ".hoodie/") ≡ false → split_once 47 name ≡ Some (partition, rest)
    → (IsPartitionPath partition → ⊥) → IsFound name None
none_without_partition name partition rest other is no_path table file h same =
    absurd (no_path (candidate_partition table file partition rest h (rw same at other) (rw same at is)))

-- the three ways to the file
pub found_in_timeline : (name : List ℕ) → bytes_eq (take 8 name) (codes ".hoodie/") ≡ true → candidate name ≡ timeline_file (drop 8 name)
unfolding candidate
found_in_timeline name is = rw is refl

pub found_nowhere : (name : List ℕ) → bytes_eq (take 8 name) (codes ".hoodie/") ≡ false → split_once 47 name ≡ None → candidate name ≡ None
unfolding candidate
found_nowhere name other is = rw (other, is) refl

pub found_in_partition : (name partition rest : List ℕ) → bytes_eq (take 8 name) (codes ".hoodie/") ≡ false → split_once 47 name ≡ Some (partition, rest)
    → candidate name ≡ data_file partition rest
unfolding candidate
found_in_partition name partition rest other is = rw (other, is) refl

-- ---- the answer

pub reads_none : (table name : List ℕ) → IsFound name None → IsRead table name Other
reads_none table name found = λ file h is. cc (found table file h is)

pub reads_unnamed : (table name : List ℕ) (file : FileName) → IsFound name (Some file) → (IsNamed file → ⊥) → IsRead table name Other
reads_unnamed table name file found unnamed = λ other h is.
    let same : file ≡ other = some_same (found table other h is) in
    unnamed (subst IsNamed (sym same) h)

pub reads_another : (table name : List ℕ) (file : FileName) → IsFound name (Some file) → (name ≡ name_of table file → ⊥) → IsRead table name Other
reads_another table name file found another = λ other h is.
    let same : file ≡ other = some_same (found table other h is) in
    another (is ∙ ap (name_of table) (sym same))

pub reads_file : (table name : List ℕ) (file : FileName) → IsNamed file → name ≡ name_of table file → IsRead table name file
reads_file table name (Instant t action state) h is = (h, is)
reads_file table name (Base group token t) h is = (h, is)
reads_file table name (Log group slice version token) h is = (h, is)
reads_file table name Properties h is = (h, is)
reads_file table name Other h is = absurd h

-- ---- laws

pub name_of_injective : (table : List ℕ) (f g : FileName) → IsNamed f → IsNamed g → name_of table f ≡ name_of table g → f ≡ g
name_of_injective table f g hf hg same = some_same (sym (candidate-name_of table f hf) ∙ ap candidate same ∙ candidate-name_of table g hg)

pub read_back : (table name : List ℕ) (f g : FileName) → IsNamed f → name ≡ name_of table f → IsRead table name g → g ≡ f
read_back table name f (Instant t action state) h is r = name_of_injective table (Instant t action state) f r.0 h (sym r.1 ∙ is)
read_back table name f (Base group token t) h is r = name_of_injective table (Base group token t) f r.0 h (sym r.1 ∙ is)
read_back table name f (Log group slice version token) h is r = name_of_injective table (Log group slice version token) f r.0 h (sym r.1 ∙ is)
read_back table name f Properties h is r = name_of_injective table Properties f r.0 h (sym r.1 ∙ is)
read_back table name f Other h is r = absurd (r f h is)

pub one_reading : (table name : List ℕ) (f g : FileName) → IsRead table name f → IsRead table name g → f ≡ g
one_reading table name (Instant t action state) g r other = sym (read_back table name (Instant t action state) g r.0 r.1 other)
one_reading table name (Base group token t) g r other = sym (read_back table name (Base group token t) g r.0 r.1 other)
one_reading table name (Log group slice version token) g r other = sym (read_back table name (Log group slice version token) g r.0 r.1 other)
one_reading table name Properties g r other = sym (read_back table name Properties g r.0 r.1 other)
one_reading table name Other (Instant t action state) r other = absurd (r (Instant t action state) other.0 other.1)
one_reading table name Other (Base group token t) r other = absurd (r (Base group token t) other.0 other.1)
one_reading table name Other (Log group slice version token) r other = absurd (r (Log group slice version token) other.0 other.1)
one_reading table name Other Properties r other = absurd (r Properties other.0 other.1)
one_reading table name Other Other r other = refl

pub ids_apart : (table : List ℕ) (g h : GroupRef) → IsGroup g → IsGroup h → g.partition ≡ h.partition → file_id table g ≡ file_id table h → g ≡ h
ids_apart table g h hg hh partitions ids =
    some_same (sym (group_of-file_id table g hg) ∙ ap (group_of g.partition) ids ∙ ap (λ p. group_of p (file_id table h)) partitions ∙ group_of-file_id table h hh)
