-- The faults of requests that are refused before the source sees them, and the plans of other requests.
use Rattle.std.specs.Prelude.{ℕ, nat_lt, ◌==◌, ◌&&◌, ◌||◌, Bool, true, false, not, is_none, List, [], ◌∷◌, ◌++◌, length, codes, bytes_eq, Option, Some, None, if◌then◌else◌, unwrap_or}
use Rattle.std.specs.List.{list_any}
use Rattle.std.specs.Str.{str_eq_ignore_ascii_case}
use Rattle.rs_record.specs.Decimal.{number_in}
use Rattle.rs_record.specs.MediaType.{is_media_type}
use Rattle.rs_record.specs.Limits.{longest_body}
use Rattle.rs_items.specs.declared.item.ItemFault.TheVariants.{BadName, BadType}
use Rattle.rs_http.specs.declared.target.Place.{Place}
use Rattle.rs_http.specs.declared.target.Place.TheVariants.{Resource, Unlawful, Document, Publishing, Grouping, Nowhere}
use Rattle.rs_http.specs.declared.target.Methods.TheVariants.{OfResources, OfDocuments, OfPosts}
use Rattle.rs_http.specs.declared.request.RequestFault.{RequestFault}
use Rattle.rs_http.specs.declared.request.RequestFault.TheVariants.{ManyFields, BadHost, TransferEncoding, BadLength, NoSuchDocument, BadMethod, NoLength, TooLong, Line}
use Rattle.rs_http.specs.declared.request.RequestPlan.{RequestPlan}
use Rattle.rs_http.specs.declared.request.RequestPlan.TheVariants.{ShowBody, ShowDocument, Put, Delete, Publish, Group}
use Rattle.rs_http.specs.Fields.{Pairs, Parts, values_of}
use Rattle.rs_http.specs.Targets.{path_of_target, place_of}

-- the greatest number of fields
abbrev pub most_fields : ℕ
most_fields = 32

-- more than one Host, or no Host in HTTP/1.1
abbrev pub is_bad_host : ℕ → List (List ℕ) → Bool
is_bad_host minor [] = minor == 1
is_bad_host minor (host ∷ []) = false
is_bad_host minor (host ∷ more ∷ hosts) = true

-- there is a field
abbrev pub is_there : List (List ℕ) → Bool
is_there [] = false
is_there (value ∷ values) = true

-- the length of a body: 1 to 18 digits
abbrev pub length_in : List ℕ → Option ℕ
length_in text = number_in 18 text

-- more than one length, or one that is no number
abbrev pub is_bad_length : List (List ℕ) → Bool
is_bad_length [] = false
is_bad_length (text ∷ []) = is_none (length_in text)
is_bad_length (text ∷ more ∷ texts) = true

-- the length that the fields state
abbrev pub stated_length : List (List ℕ) → Option ℕ
stated_length [] = None
stated_length (text ∷ texts) = length_in text

-- the length that a head states
abbrev pub stated_in : Parts → Option ℕ
stated_in p = stated_length (values_of (codes "content-length") p.fields)

-- the types that the fields state
abbrev pub kinds_in : Pairs → List (List ℕ)
kinds_in fields = values_of (codes "content-type") fields

-- an unlawful type, or a second one
abbrev pub is_bad_type : List (List ℕ) → Bool
is_bad_type [] = false
is_bad_type (kind ∷ []) = not (is_media_type kind)
is_bad_type (kind ∷ more ∷ kinds) = true

-- the type of a body, also if the fields state no type
abbrev pub stated_type : List (List ℕ) → List ℕ
stated_type [] = codes "application/octet-stream"
stated_type (kind ∷ kinds) = kind

-- longer than a body may be
abbrev pub is_too_long : Option ℕ → Bool
is_too_long None = false
is_too_long (Some n) = nat_lt longest_body n

-- methods are case-sensitive (RFC 9110, section 9.1)
abbrev pub is_get : List ℕ → Bool
is_get method = bytes_eq method (codes "GET") || bytes_eq method (codes "HEAD")

abbrev pub is_put : List ℕ → Bool
is_put method = bytes_eq method (codes "PUT")

abbrev pub is_delete : List ℕ → Bool
is_delete method = bytes_eq method (codes "DELETE")

abbrev pub is_post : List ℕ → Bool
is_post method = bytes_eq method (codes "POST")

-- the place that the target names
abbrev pub place_in : Parts → Place
place_in p = place_of (path_of_target p.target)

-- causes in their order: whether a cause applies, and its fault
abbrev pub Causes : Type 0
Causes = List (Bool × RequestFault)

-- the fault of the first cause that applies
abbrev pub first_fault : Causes → Option RequestFault
first_fault [] = None
first_fault (c ∷ causes) = if c.0 then Some c.1 else first_fault causes

-- the causes in the fields of any request, in their order
abbrev pub field_causes : Parts → Causes
field_causes p =
    (nat_lt most_fields (length p.fields), ManyFields)
    ∷ (is_bad_host p.minor (values_of (codes "host") p.fields), BadHost)
    ∷ (is_there (values_of (codes "transfer-encoding") p.fields), TransferEncoding)
    ∷ (is_bad_length (values_of (codes "content-length") p.fields), BadLength) ∷ []

-- the causes of a PUT, in their order: no length, an unlawful type or a second one, and too long a body
abbrev pub put_head_causes : Option ℕ → List (List ℕ) → Causes
put_head_causes stated kinds = (is_none stated, NoLength) ∷ (is_bad_type kinds, Line BadType) ∷ (is_too_long stated, TooLong) ∷ []

abbrev pub put_head_causes_in : Parts → Causes
put_head_causes_in p = put_head_causes (stated_in p) (kinds_in p.fields)

-- the causes of a group, in their order: no length, and too long a body
abbrev pub group_head_causes : Option ℕ → Causes
group_head_causes stated = (is_none stated, NoLength) ∷ (is_too_long stated, TooLong) ∷ []

-- the causes in the target and in the method; then those of a PUT, which only resources allow, and of a group
abbrev pub place_causes : Place → Parts → Causes
place_causes (Resource name) p =
    (not (is_get p.method || is_put p.method || is_delete p.method), BadMethod OfResources) ∷ (if is_put p.method then put_head_causes_in p else [])
place_causes Unlawful p = (true, Line BadName) ∷ []
place_causes (Document doc) p = (not (is_get p.method), BadMethod OfDocuments) ∷ []
place_causes Publishing p = (not (is_post p.method), BadMethod OfPosts) ∷ []
place_causes Grouping p = (not (is_post p.method), BadMethod OfPosts) ∷ group_head_causes (stated_in p)
place_causes Nowhere p = (true, NoSuchDocument) ∷ []

-- all causes
abbrev pub causes_of : Parts → Causes
causes_of p = field_causes p ++ place_causes (place_in p) p

-- an expectation is `100-continue`, without case (RFC 9110, section 10.1.1)
abbrev pub is_continue : List (List ℕ) → Bool
is_continue values = list_any (λ value. str_eq_ignore_ascii_case value (codes "100-continue")) values

-- HTTP/1.1 expects the word to go on
abbrev pub expects_word : Parts → Bool
expects_word p = (p.minor == 1) && is_continue (values_of (codes "expect") p.fields)

-- the client waits for the word to go on before it sends a body of n bytes
abbrev pub is_waited : Bool → ℕ → Bool
is_waited expects n = expects && nat_lt 0 n

-- a put: its type, its length, and whether the client waits
abbrev pub put_plan : List ℕ → List (List ℕ) → ℕ → Bool → RequestPlan
put_plan name kinds n expects = Put name (stated_type kinds) n (is_waited expects n)

-- a group: the length of its body, and whether the client waits
abbrev pub group_plan : ℕ → Bool → RequestPlan
group_plan n expects = Group n (is_waited expects n)

-- the plan of a request for a resource
abbrev pub resource_plan : List ℕ → Parts → RequestPlan
resource_plan name p =
    if is_put p.method then
    put_plan name (kinds_in p.fields)
    (unwrap_or (stated_in p) 0)
    (expects_word p)
    else if is_delete p.method then Delete name
    else ShowBody name

-- the plan of a request, unless it is refused
abbrev pub plan_at : Place → Parts → Option RequestPlan
plan_at (Resource name) p = Some (resource_plan name p)
plan_at (Document doc) p = Some (ShowDocument doc)
plan_at Publishing p = Some Publish
plan_at Grouping p = Some (group_plan (unwrap_or (stated_in p) 0) (expects_word p))
plan_at place p = None
