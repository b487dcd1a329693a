-- What the requests of the program stand for.
use Rattle.plc_reclaim.specs.Rows.{leak_row, list_row, hazard_row, epoch_row}
use Rattle.plc_hunting.specs.declared.words.Freeing.{Freeing as Asked}
use Rattle.plc_hunting.specs.declared.words.Freeing.TheVariants as asked
use Rattle.plc_hunting.specs.declared.words.Request.{Request as AskedRequest}
use Rattle.plc_hunting.specs.Requests.{Freeing, By, Any, Request}

-- who frees
abbrev pub freeing_view : Asked → Freeing
freeing_view asked.Leak = By leak_row
freeing_view asked.List = By list_row
freeing_view asked.Hazard = By hazard_row
freeing_view asked.Epoch = By epoch_row
freeing_view asked.Any = Any

-- a request, with the bytes of its first word
abbrev pub request_view : AskedRequest → Request
request_view request = record {
  file = request.file.now;
  freeing = freeing_view request.freeing;
  seed = request.seed;
}
