-- The statuses of responses (RFC 9110, section 15; 507 is of RFC 4918, section 11.5).
use Rattle.std.specs.Prelude.{ℕ, List, codes}
use Rattle.rs_http.specs.declared.status.StatusCode.{StatusCode}
use Rattle.rs_http.specs.declared.status.StatusCode.TheVariants as statuses

abbrev pub code_of : StatusCode → ℕ
code_of statuses.Ok = 200
code_of statuses.Created = 201
code_of statuses.NoContent = 204
code_of statuses.BadRequest = 400
code_of statuses.NotFound = 404
code_of statuses.MethodNotAllowed = 405
code_of statuses.LengthRequired = 411
code_of statuses.ContentTooLarge = 413
code_of statuses.RequestHeaderFieldsTooLarge = 431
code_of statuses.InternalServerError = 500
code_of statuses.NotImplemented = 501
code_of statuses.ServiceUnavailable = 503
code_of statuses.InsufficientStorage = 507

-- the reason phrase
abbrev pub phrase_of : StatusCode → List ℕ
phrase_of statuses.Ok = codes "OK"
phrase_of statuses.Created = codes "Created"
phrase_of statuses.NoContent = codes "No Content"
phrase_of statuses.BadRequest = codes "Bad Request"
phrase_of statuses.NotFound = codes "Not Found"
phrase_of statuses.MethodNotAllowed = codes "Method Not Allowed"
phrase_of statuses.LengthRequired = codes "Length Required"
phrase_of statuses.ContentTooLarge = codes "Content Too Large"
phrase_of statuses.RequestHeaderFieldsTooLarge = codes "Request Header Fields Too Large"
phrase_of statuses.InternalServerError = codes "Internal Server Error"
phrase_of statuses.NotImplemented = codes "Not Implemented"
phrase_of statuses.ServiceUnavailable = codes "Service Unavailable"
phrase_of statuses.InsufficientStorage = codes "Insufficient Storage"
