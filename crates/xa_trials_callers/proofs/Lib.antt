mod Calling
mod Serving
mod Forwarding
