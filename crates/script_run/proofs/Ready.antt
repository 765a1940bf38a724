-- What a run has before its table is made.
use Rattle.std.proofs.Common.{◌≡◌, ℕ, Bool, true, List, [], ◌∷◌, ◌++◌, map, Option, Some, None, Result, Err, refl, sym, ap, subst, ◌∙◌, append_assoc, append-nil, IsTrue}
use Rattle.std.proofs.lemmas.List.{map-append}
use Rattle.std.specs.Prelude.{flat_map, is_none}
use Rattle.std.specs.declared.alloc.AllocError.{AllocError}
use Rattle.avro_schema.specs.AvroTypes.{AvroType, record_of, type_of}
use Rattle.payload_merge.specs.declared.row_error.RowError.{RowError}
use Rattle.payload_merge.specs.declared.row_error.RowError.TheVariants.{Memory, NotFlat, Mismatch, NoKey, BadPartition, NoOrdering, TooLarge, BadContent}
use Rattle.row_codec.specs.Codec.{AnswersCodec}
use Rattle.script_jobs.specs.Scripts.{SaidJob, said_job, said_phase}
use Rattle.script_jobs.specs.declared.script.Job.{Job}
use Rattle.script_jobs.specs.declared.script.Phase.{Phase}
use Rattle.table_history.specs.Histories.{History}
use Rattle.table_props.specs.Flat.{fields_in, first_not_flat, is_flat, listed}
use Rattle.table_props.specs.PropsTexts.{IsTold, told_of}
use Rattle.table_props.specs.declared.props.Props.{Props}
use Rattle.script_run.specs.Runs.{RunTable}
use Rattle.script_run.proofs.Closing.{RanOn}

-- ---- the codec

none_left : (o : Option ℕ) → is_none o ≡ true → o ≡ None
none_left None is = refl
none_left (Some n) is = absurd cc

all_flat : (t : AvroType) → IsTrue (is_flat t) → first_not_flat (fields_in t) ≡ None
all_flat (record_of name fields) flat = none_left (first_not_flat (listed fields)) flat
all_flat _ flat = absurd cc

-- since the fields of told properties are flat, memory alone may be wanting
pub codec_fails : (props : Props) (error : RowError) → IsTold (told_of props) → AnswersCodec props (Err error) → error ≡ Memory
codec_fails props (NotFlat place) told answers =
    let none : None ≡ Some place = sym (all_flat (type_of props.schema) told.flat) ∙ answers in absurd cc
codec_fails props Memory told answers = refl
codec_fails props (Mismatch field) told answers = answers
codec_fails props NoKey told answers = answers
codec_fails props BadPartition told answers = answers
codec_fails props NoOrdering told answers = answers
codec_fails props TooLarge told answers = answers
codec_fails props (BadContent at) told answers = answers

-- ---- the jobs

-- those of a phase more
pub with_phase : (jobs before all : List Job) (phase : Phase) → jobs ≡ before ++ all → all ≡ phase.jobs → map said_job jobs ≡ map said_job before ++ said_phase phase
with_phase jobs before all phase are same =
    ap (map said_job) are ∙ map-append said_job before all ∙ ap (λ (more : List Job). map said_job before ++ map said_job more) same

abbrev join : List (List SaidJob) → List SaidJob
join phases = flat_map (λ jobs. jobs) phases

join_more : (before : List (List SaidJob)) (jobs : List SaidJob) → join (before ++ jobs ∷ []) ≡ join before ++ jobs
join_more [] jobs = append-nil jobs
join_more (first ∷ before) jobs =
    ap (λ (more : List SaidJob). first ++ more) (join_more before jobs) ∙ sym (append_assoc first (join before) jobs)

pub phases_more : (all new : List SaidJob) (before : List Phase) (phase : Phase) → all ≡ flat_map (λ jobs. jobs) (map said_phase before) → new ≡ all ++ said_phase phase
    → new ≡ flat_map (λ jobs. jobs) (map said_phase (before ++ phase ∷ []))
phases_more all new before phase are more =
    more ∙ ap (λ (jobs : List SaidJob). jobs ++ said_phase phase) are ∙ sym (join_more (map said_phase before) (said_phase phase))
    ∙ ap (flat_map (λ (jobs : List SaidJob). jobs)) (sym (map-append said_phase before (phase ∷ [])))

-- ---- the run

-- by what is equal to its parts
pub ran_on_same : (A B : RunTable) (m n : List ℕ) (j k : List SaidJob) (H K : History) (lines : List ℕ) (ran : Result Bool AllocError) → A ≡ B → m ≡ n → j ≡ k → H ≡ K → RanOn A m j H lines ran → RanOn B n k K lines ran
ran_on_same A B m n j k H K lines ran tables texts jobs entries is =
    subst (λ (H : History). RanOn B n k H lines ran) entries
    (subst (λ (j : List SaidJob). RanOn B n j H lines ran) jobs
    (subst (λ (m : List ℕ). RanOn B m j H lines ran) texts
    (subst (λ (A : RunTable). RanOn A m j H lines ran) tables is)))
