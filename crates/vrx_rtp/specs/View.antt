-- What the types of the code stand for.
use Rattle.std.specs.Prelude.{Result, Ok, Err}
use Rattle.std.specs.Option.{option_map}
use Rattle.vrx_rtp.specs.declared.fault.RtpFault.{RtpFault}
use Rattle.vrx_rtp.specs.declared.rtp_view.Extension.{Extension}
use Rattle.vrx_rtp.specs.declared.rtp_view.RtpView.{RtpView}
use Rattle.vrx_rtp.specs.Packet.{HeaderExtension, Packet}

-- the header extension, without where it lies in memory
abbrev pub view_extension : Extension → HeaderExtension
view_extension e = record { profile = e.profile; words = e.words.now }

-- the packet, without where it lies in memory
abbrev pub view : RtpView → Packet
view v = record {
  marker = v.marker;
  pt = v.pt;
  seq = v.seq;
  ts = v.ts;
  ssrc = v.ssrc;
  csrc = v.csrc.now;
  extension = option_map view_extension v.extension;
  payload = v.payload.now;
  padding = v.padding;
}

-- what was read, seen so, or the fault
abbrev pub result_by : {X Y : Type 0} → (X → Y) → Result X RtpFault → Result Y RtpFault
result_by f (Ok x) = Ok (f x)
result_by f (Err e) = Err e

-- the packet that was read, or the fault
abbrev pub view_result : Result RtpView RtpFault → Result Packet RtpFault
view_result result = result_by view result
